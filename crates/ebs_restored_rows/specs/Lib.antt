pub mod Laws
pub mod Placed
pub mod Restores
pub mod Said
pub mod Shelves
