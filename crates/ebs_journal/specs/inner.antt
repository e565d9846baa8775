pub mod Areas
pub mod Format
pub mod Line
pub mod Opening
pub mod Reading
pub mod Standing
