pub mod HeldLaws
pub mod DueLaws
pub mod MatchLaws
pub mod PostLaws
pub mod LookupLaws
