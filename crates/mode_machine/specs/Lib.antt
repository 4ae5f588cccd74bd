pub mod Chains
pub mod Disabling
pub mod Kept
pub mod Owed
pub mod Tracked
pub mod Common
