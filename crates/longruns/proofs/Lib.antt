pub mod Places
pub mod Lines
pub mod Forgets
pub mod Leaps
