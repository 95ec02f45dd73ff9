pub mod Timer
pub mod Closed
pub mod Demands
