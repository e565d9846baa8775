pub mod Undone
pub mod Least
