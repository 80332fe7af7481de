pub mod Days
pub mod Sending
pub mod Worked
