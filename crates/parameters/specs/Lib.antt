pub mod Names
pub mod Slots
pub mod SlotWalk
