pub mod FaultLine
pub mod AnswerText
