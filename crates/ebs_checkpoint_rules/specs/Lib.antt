pub mod inner
pub mod Rules
