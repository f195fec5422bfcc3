pub mod ListsTheorems
pub mod Cases
