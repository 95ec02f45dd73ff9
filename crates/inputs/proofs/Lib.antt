pub mod Top
pub mod Masks
pub mod Holding
pub mod Sound
pub mod Demands
