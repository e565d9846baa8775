pub mod Rooms
pub mod Counts
pub mod Chains
pub mod Servings
pub mod Endings
pub mod Completes
pub mod Told
