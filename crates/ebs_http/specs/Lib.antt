pub mod Messages
pub mod inner
