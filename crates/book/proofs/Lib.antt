pub mod EntryLaws
pub mod RowsLaws
pub mod StateLaws
