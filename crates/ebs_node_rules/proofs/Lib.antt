pub mod Found
pub mod Marks
pub mod Keyed
pub mod Chains
pub mod Tops
pub mod Moved
pub mod Borne
