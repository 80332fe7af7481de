pub mod Escapes
pub mod Tables
