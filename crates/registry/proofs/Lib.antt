pub mod SplitLaws
pub mod CheckLaws
pub mod TextAgain
pub mod LinesGood
pub mod ReportLaws
