pub mod Spellings
pub mod inner
