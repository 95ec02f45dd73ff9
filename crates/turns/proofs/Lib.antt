pub mod Turning
pub mod Demands
