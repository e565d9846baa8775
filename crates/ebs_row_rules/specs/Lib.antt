pub mod inner
pub mod Order
pub mod Owners
pub mod Limits
pub mod Counts
pub mod Numbers
pub mod Stamps
pub mod Slots
