pub mod Records
pub mod Copying
