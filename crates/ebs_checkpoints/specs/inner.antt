pub mod Nodes
pub mod Owned
pub mod Snapshots
pub mod Checkpoints
pub mod Whole
