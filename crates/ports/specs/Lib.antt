pub mod Ports
pub mod Demands
