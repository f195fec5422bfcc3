pub mod AnswerRead
pub mod AnswerParts
pub mod ReadBack
