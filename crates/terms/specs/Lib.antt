pub mod Models
pub mod TermsText
pub mod Written
