pub mod Answer
pub mod AnswerText
