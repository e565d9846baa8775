pub mod TreeMaps
pub mod MapEdits
pub mod FullLaws
pub mod AgedLaws
pub mod Counted
pub mod Clones
pub mod Orders
