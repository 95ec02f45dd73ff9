pub mod Blocks
pub mod Judged
pub mod Windows
pub mod Walks
pub mod Demands
