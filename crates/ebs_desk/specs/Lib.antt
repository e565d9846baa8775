pub mod Line
pub mod Saves
pub mod Turns
pub mod Fronts
pub mod Tasks
pub mod Calls
pub mod Staging
