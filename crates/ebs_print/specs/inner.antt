pub mod Printed
pub mod Splits
