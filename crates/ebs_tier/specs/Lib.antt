pub mod TierLaws
pub mod Waiting
