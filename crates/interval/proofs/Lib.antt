pub mod Dividers
pub mod Formed
pub mod Clocked
pub mod Runs
pub mod Sound
pub mod Demands
