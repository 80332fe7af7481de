pub mod Models
pub mod ReportText
pub mod Written
