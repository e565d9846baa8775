pub mod Holders
pub mod Restored
