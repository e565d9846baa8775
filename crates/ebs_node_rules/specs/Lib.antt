pub mod inner
pub mod Nodes
pub mod States
pub mod Arrays
