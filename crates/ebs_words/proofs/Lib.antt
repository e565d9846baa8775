pub mod Numbers
pub mod Options
pub mod Leaves
pub mod Lines
pub mod Spelled
pub mod Exact
