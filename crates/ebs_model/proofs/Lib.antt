mod Walks
pub mod Padding
pub mod Radix
pub mod IdDigits
pub mod ReaderLaws
pub mod Aged
pub mod Values
pub mod ListValues
pub mod KeptAges
pub mod KeptLaw
pub mod RowLaws
pub mod Commits
pub mod RuleLaws
mod PolicyCases
pub mod RunLaws
pub mod VolumeGroups
pub mod Histories
