pub mod Frames
pub mod Demands
