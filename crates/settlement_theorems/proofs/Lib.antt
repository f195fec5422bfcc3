pub mod BalanceLaws
pub mod Cases
pub mod GivesTheorems
pub mod GoodTheorems
pub mod LedgerLaws
pub mod SettleLaws
