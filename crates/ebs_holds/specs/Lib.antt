pub mod Holders
pub mod Orders
pub mod Holds
pub mod Counted
pub mod Changes
pub mod Shown
