pub mod Registry
pub mod Report
