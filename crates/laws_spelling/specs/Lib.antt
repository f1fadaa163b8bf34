pub mod Digits
pub mod Numbers
pub mod Pieces
pub mod Lines
pub mod Texts
pub mod Tables
pub mod Said
