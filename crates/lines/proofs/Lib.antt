pub mod Lines
pub mod Ends
pub mod Keeping
pub mod Written
pub mod Places
pub mod Cutting
pub mod Demands
