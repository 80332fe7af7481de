pub mod Products
pub mod FourLines
pub mod ExactTerms
