pub mod Scan
pub mod Exact
pub mod Same
pub mod Numbers
pub mod ExactLists
pub mod Given
pub mod Steps
pub mod Lines
