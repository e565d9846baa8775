pub mod inner
pub mod Stamps
