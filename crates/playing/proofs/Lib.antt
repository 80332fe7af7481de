pub mod Noting
pub mod Framing
