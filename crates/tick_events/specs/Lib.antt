pub mod Countdowns
pub mod Kept
pub mod Running
pub mod Winners
