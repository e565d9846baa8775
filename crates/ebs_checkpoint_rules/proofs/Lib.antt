pub mod Ascents
pub mod Held
pub mod Told
