pub mod Line
pub mod LineText
