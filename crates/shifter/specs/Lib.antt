pub mod Shifter
pub mod Closed
pub mod Demands
