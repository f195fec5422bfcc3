pub mod Given
pub mod Lines
pub mod Load
pub mod LineWalk
