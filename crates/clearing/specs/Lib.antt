pub mod Clearing
pub mod Steps
