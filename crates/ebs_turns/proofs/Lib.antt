pub mod Lines
pub mod Views
pub mod Steps
pub mod Turning
pub mod Passes
pub mod Sending
