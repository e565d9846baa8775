pub mod Outcome
pub mod Paths
pub mod Sources
pub mod Kinds
pub mod Memory
pub mod Laws
