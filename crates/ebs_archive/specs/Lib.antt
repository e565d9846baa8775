pub mod Keys
pub mod Copies
pub mod inner
