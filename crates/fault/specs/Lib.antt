pub mod Faults
pub mod Refused
