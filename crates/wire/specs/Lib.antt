pub mod Wires
pub mod Marks
pub mod Rows
pub mod Makers
pub mod Kinds
pub mod Outcomes
pub mod InUse
