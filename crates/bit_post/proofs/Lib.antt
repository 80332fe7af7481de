pub mod SameTable
pub mod Attempting
pub mod Retrials
