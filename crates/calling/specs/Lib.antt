pub mod Told
pub mod After
pub mod Demands
