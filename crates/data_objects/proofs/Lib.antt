pub mod Keeping
pub mod Leading
pub mod Elsewhere
pub mod Missing
pub mod Opening
pub mod Starting
pub mod Staying
mod Telling
mod Acting
pub mod OneGroup
