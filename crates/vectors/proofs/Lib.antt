pub mod LineLaws
pub mod EscapeLaws
