pub mod Marks
pub mod Matches
pub mod Refusals
pub mod Demands
