pub mod Request
pub mod RequestWalk
pub mod RequestText
