pub mod MarkingLaws
