pub mod Bounds
pub mod Happened
pub mod Returned
pub mod Waiting
pub mod Common
