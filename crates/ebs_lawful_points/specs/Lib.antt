pub mod PointLaws
pub mod Blocks
