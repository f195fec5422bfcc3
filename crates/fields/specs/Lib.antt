pub mod Amount
pub mod Codes
pub mod Number
