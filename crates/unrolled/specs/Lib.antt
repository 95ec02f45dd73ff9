pub mod Windows
pub mod Demands
