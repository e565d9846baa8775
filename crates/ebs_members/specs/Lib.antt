pub mod inner
pub mod Sources
pub mod Kinds
pub mod Policies
