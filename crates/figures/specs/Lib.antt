pub mod Figures
pub mod Sums
pub mod Daily
pub mod Listing
