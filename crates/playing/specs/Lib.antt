pub mod Tallies
pub mod Days
pub mod Frames
