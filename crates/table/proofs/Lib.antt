pub mod TableLaws
pub mod SignedLaws
pub mod AccountLaws
pub mod ColumnLaws
pub mod DailyLaws
pub mod PaymentLaws
pub mod RowsLaws
