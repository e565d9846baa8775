pub mod Regrown
pub mod Counted
pub mod Laws
