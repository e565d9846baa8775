pub mod inner
pub mod Fields
pub mod States
pub mod Calls
pub mod Records
pub mod Names
pub mod Policies
