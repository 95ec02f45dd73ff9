pub mod Record
pub mod Access
pub mod Clock
pub mod Signals
pub mod Closed
