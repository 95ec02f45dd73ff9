pub mod Hex
pub mod Replies
pub mod Demands
