pub mod AnswerTextLaws
