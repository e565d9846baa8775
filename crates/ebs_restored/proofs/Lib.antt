pub mod Naming
pub mod Named
pub mod Held
pub mod Arrays
pub mod Whole
pub mod SaidArrays
pub mod SaidMachine
pub mod SaidSlots
