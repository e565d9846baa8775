pub mod Talks
pub mod Taking
pub mod Sames
pub mod Rows
pub mod Whole
pub mod Crossing
