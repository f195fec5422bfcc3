pub mod Feed
pub mod Session
pub mod Parts
