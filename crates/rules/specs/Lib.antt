pub mod Decision
pub mod Answering
