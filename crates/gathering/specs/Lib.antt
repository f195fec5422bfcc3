pub mod Held
pub mod Gather
