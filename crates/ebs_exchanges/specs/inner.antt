pub mod Lives
pub mod LifeLaws
