pub mod OnDisk
pub mod Keeps
