pub mod SlotLaws
pub mod WordLaws
