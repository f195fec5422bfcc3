pub mod SummableLaws
pub mod ShownLaws
pub mod CutLaws
pub mod HeldLaws
pub mod FeedLaws
pub mod PartLaws
