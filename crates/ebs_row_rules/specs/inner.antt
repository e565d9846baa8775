pub mod Counts
pub mod Stamps
