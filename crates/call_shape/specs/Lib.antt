pub mod Asked
pub mod LaidOut
pub mod Worked
