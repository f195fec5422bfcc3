pub mod SumLaws
pub mod PrintLaws
pub mod DailyLaws
