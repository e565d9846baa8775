pub mod Nodes
pub mod Placed
pub mod Rules
pub mod Snapshots
pub mod Stored
pub mod Accounts
