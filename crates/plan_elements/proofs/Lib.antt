pub mod Keys
pub mod Standing
pub mod Filling
pub mod Leading
pub mod Spreading
pub mod Few
pub mod Joining
pub mod Ranking
pub mod Mapped
pub mod Marking
pub mod Lowest
mod Listing
pub mod Connecting
