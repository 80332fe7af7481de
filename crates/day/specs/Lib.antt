pub mod Models
pub mod DayText
pub mod Written
