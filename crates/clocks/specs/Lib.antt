pub mod Clocks
pub mod Forecasts
pub mod Bits
pub mod Ranges
