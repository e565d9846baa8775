pub mod Apart
pub mod Blocks
pub mod Freeing
pub mod Hashed
pub mod Maps
pub mod Starts
