pub mod Dropped
pub mod Left
pub mod Naming
pub mod Rooted
pub mod Entered
pub mod Living
pub mod Grown
pub mod Whole
