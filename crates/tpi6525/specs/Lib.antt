pub mod Record
pub mod Signals
pub mod Access
pub mod Pins
pub mod Chip
pub mod Demands
