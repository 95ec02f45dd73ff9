pub mod Lawful
pub mod Demands
