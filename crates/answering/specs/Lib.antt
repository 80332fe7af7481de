pub mod Reports
pub mod Answers
pub mod Figures
pub mod Playing
