pub mod Nodes
pub mod Arrays
pub mod Lookups
