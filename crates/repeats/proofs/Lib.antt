pub mod Ends
pub mod Streaming
