pub mod Writes
pub mod WriteWalk
