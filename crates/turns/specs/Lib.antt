pub mod Turns
pub mod Demands
