pub mod Due
pub mod DueLaws
pub mod Retention
pub mod RetentionLaws
