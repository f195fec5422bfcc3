pub mod Balances
pub mod Cases
pub mod Claims
