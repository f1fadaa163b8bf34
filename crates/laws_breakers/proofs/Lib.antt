pub mod Breakers
