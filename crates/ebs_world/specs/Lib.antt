pub mod Ends
pub mod inner
pub mod Image
pub mod View
