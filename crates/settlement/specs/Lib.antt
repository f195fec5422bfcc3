pub mod Settle
pub mod SettleText
