pub mod Laws
pub mod Slacks
pub mod Makers
pub mod Halves
pub mod Products
