pub mod inner
pub mod Format
pub mod Opening
