pub mod Gathered
pub mod InRange
