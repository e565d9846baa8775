pub mod Ascending
pub mod Searches
pub mod Sets
pub mod Digests
pub mod Groups
