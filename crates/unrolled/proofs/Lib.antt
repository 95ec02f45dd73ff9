pub mod Windows
pub mod Quiet
pub mod Demands
