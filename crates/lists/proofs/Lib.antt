pub mod ListLaws
pub mod ColumnLaws
pub mod LentLaws
pub mod EachLaws
pub mod RowsLaws
