pub mod Lines
pub mod Keeps
pub mod Lawful
pub mod Watched
pub mod Demands
