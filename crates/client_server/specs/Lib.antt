pub mod Asked
pub mod Kept
pub mod Points
pub mod Queue
