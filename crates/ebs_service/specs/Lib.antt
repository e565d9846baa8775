pub mod inner
pub mod Fronts
