pub mod Flags
pub mod Demands
