pub mod Lens
pub mod Lines
pub mod Formed
pub mod Keeps
pub mod Lawful
pub mod Watched
pub mod Shifting
pub mod Demands
