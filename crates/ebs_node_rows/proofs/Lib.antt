pub mod Marking
pub mod Entered
pub mod Found
pub mod Writing
pub mod Reached
