pub mod Sequences
pub mod Parts
pub mod Turns
pub mod Keeps
pub mod Opening
pub mod Windows
pub mod Comparing
