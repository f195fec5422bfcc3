pub mod LineLaws
pub mod LineParts
pub mod LineAgain
pub mod WriteLaws
