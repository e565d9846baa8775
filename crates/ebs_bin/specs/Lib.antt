pub mod Books
pub mod Agrees
pub mod BinLaws
