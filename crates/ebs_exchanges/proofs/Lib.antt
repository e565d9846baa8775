pub mod OneWay
pub mod Passing
pub mod TurnsMade
pub mod Machines
pub mod Later
pub mod Untold
pub mod ReadBack
