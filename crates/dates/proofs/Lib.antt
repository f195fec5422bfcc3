pub mod EmptyLaws
pub mod DateLaws
pub mod DayTests
pub mod KeyLaws
pub mod Samples
