pub mod Ends
pub mod Chains
pub mod Collects
pub mod Ticks
pub mod Samples
