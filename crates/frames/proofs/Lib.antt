pub mod Lines
pub mod Demands
