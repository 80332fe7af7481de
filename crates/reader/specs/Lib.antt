pub mod Bytes
pub mod Words
pub mod Readings
pub mod Readers
pub mod Lines
pub mod Lists
pub mod Answers
