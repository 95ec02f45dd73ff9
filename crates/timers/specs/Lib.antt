pub mod First
pub mod Second
pub mod Pair
pub mod Closed
