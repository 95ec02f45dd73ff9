pub mod Turning
pub mod Streaming
