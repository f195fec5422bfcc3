-- Back to the real words: what the model proves of its runs is told of the real world.
pub mod SettledDays
pub mod Flag
pub mod SafeOf
pub mod Safety
pub mod Refused
pub mod Sent
