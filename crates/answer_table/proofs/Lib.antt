pub mod WholeLines
pub mod Flushed
