pub mod Outs
pub mod Lanes
pub mod Tables
pub mod Makers
pub mod Shown
pub mod Sends
