pub mod Lines
pub mod Ends
pub mod inner
pub mod Collects
pub mod Ticks
pub mod Samples
