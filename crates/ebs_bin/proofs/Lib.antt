pub mod Released
pub mod Longest
pub mod Stays
