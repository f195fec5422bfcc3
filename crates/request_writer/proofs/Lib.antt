pub mod WriteTexts
pub mod WriteLaws
