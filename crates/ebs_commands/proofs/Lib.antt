pub mod RunEnds
pub mod SoFar
pub mod Listed
pub mod Given
pub mod Collected
pub mod Sampled
