pub mod Line
pub mod Rule
pub mod Tells
pub mod Known
