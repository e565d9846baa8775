pub mod Values
pub mod Moved
pub mod Blocks
pub mod Listed
pub mod Laws
