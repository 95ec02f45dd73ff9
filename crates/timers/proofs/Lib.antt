pub mod Parity
pub mod Firsts
pub mod Passings
pub mod Seconds
pub mod Pairs
