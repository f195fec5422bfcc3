pub mod FieldLaws
pub mod RequestLaws
pub mod PairLaws
pub mod RequestAgain
pub mod RequestRange
