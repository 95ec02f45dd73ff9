pub mod Matches
pub mod Demands
