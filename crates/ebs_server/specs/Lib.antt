pub mod Answers
pub mod Hands
pub mod Left
pub mod Posts
pub mod Served
pub mod Statuses
pub mod Taken
