pub mod RangeLaws
pub mod ValidLaws
pub mod GoodLaws
