pub mod Clocks
pub mod Tests
pub mod Forecasts
pub mod Turns
pub mod Bits
pub mod Ranges
pub mod Lists
pub mod Options
