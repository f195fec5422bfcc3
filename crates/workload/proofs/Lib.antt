pub mod GivenLaws
pub mod LineLaws
pub mod LoadLaws
