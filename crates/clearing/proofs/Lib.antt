pub mod LinesLaws
pub mod RevokeLaws
pub mod SweepLaws
pub mod ReportLaws
