pub mod Texts
pub mod Demands
