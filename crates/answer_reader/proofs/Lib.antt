pub mod AnswerTagLaws
pub mod AnswerPartLaws
pub mod AnswerAgain
pub mod AnswerRange
