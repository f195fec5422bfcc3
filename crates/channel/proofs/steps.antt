-- Each call is a step of the model's, or refuses and changes nothing.
pub mod WriteSims
pub mod AgentSims
pub mod BookSims
pub mod ReportSims
pub mod OpenSims
pub mod AskSims
pub mod LinesSims
pub mod SettleSims
