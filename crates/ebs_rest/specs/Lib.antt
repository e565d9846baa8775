pub mod CallOf
pub mod inner
pub mod Calls
