pub mod Inputs
pub mod Demands
