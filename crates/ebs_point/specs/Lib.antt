pub mod Live
pub mod Nodes
pub mod Points
pub mod Short
pub mod Slots
