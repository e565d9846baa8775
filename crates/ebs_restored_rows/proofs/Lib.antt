mod Allowed
mod FoundRows
mod MovedShelves
pub mod PointRows
mod Putting
mod Ruled
mod SaidRows
mod ShelfEdits
