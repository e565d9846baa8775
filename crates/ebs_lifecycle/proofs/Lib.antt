mod Multiples
mod Days
mod Newest
mod Oldest
mod Kept
pub mod OneOrder
pub mod AtMost
