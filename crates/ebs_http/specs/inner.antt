pub mod Messages
pub mod Parsing
pub mod Received
pub mod Waiting
pub mod Begun
pub mod States
pub mod Framing
