pub mod Lines
pub mod Keeps
pub mod Written
pub mod Places
pub mod Demands
