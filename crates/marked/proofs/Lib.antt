pub mod Tests
pub mod Typed
pub mod On22
pub mod On25
pub mod On32
pub mod On45
pub mod Demands
