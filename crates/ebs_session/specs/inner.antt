pub mod Session
pub mod Progress
