pub mod Exchanges
pub mod Stops
pub mod Lives
pub mod inner
pub mod ReadBack
