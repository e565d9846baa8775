pub mod Served
pub mod Fronts
