pub mod Views
pub mod Short
pub mod Each
pub mod Asked
pub mod Wholes
