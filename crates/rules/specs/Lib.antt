pub mod Lists
pub mod Rules
pub mod Expected
pub mod Runs
pub mod Laws
