pub mod Stack
pub mod Backlogs
pub mod Shown
pub mod Slices
pub mod Steps
pub mod Laws
