pub mod Formed
pub mod Keeps
pub mod Runs
