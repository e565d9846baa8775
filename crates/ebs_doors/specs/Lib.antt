pub mod Doors
pub mod inner
