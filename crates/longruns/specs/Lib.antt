pub mod Ends
pub mod Closed
