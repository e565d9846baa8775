pub mod inner
pub mod Slots
