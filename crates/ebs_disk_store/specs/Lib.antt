pub mod inner
pub mod Opened
pub mod Checked
pub mod Collected
