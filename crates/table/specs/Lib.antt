pub mod Table
pub mod Lent
pub mod Accounts
pub mod Columns
pub mod Daily
