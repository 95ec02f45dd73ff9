pub mod Aheads
pub mod Told
pub mod Demands
