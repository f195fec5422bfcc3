-- The bridge: a real world seen as one of the byte-free model (`Shape`, `WorldOf`: `world_of` is a function), lent rows as lists (`RowsOf`, `AccountsOf`, `BookOf`, `GateOf`), and when a registry's line matches (`MatchOf`).
pub mod Shape
pub mod RowsOf
pub mod AccountsOf
pub mod WorldOf
pub mod BookOf
pub mod GateOf
pub mod MatchOf
