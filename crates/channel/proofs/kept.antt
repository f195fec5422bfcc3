-- Row 68 for ever: what the calls look at beside the model is kept by every call, so that every list of steps from a start is a run of the model's (`Reach`).
pub mod BookKeeps
pub mod Reach
