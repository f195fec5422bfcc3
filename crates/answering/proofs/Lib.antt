pub mod MeaningLaws
pub mod AnsweringLaws
