pub mod Record
pub mod Flags
pub mod Access
pub mod Pins
pub mod Clock
pub mod Closed
pub mod Chip
pub mod Demands
