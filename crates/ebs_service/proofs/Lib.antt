mod Counts
mod Points
mod Pendings
mod Paths
mod Sessions
