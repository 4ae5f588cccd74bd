pub mod Answered
pub mod Apart
pub mod Asking
mod ByForm
pub mod Carrying
pub mod Causes
pub mod Indexed
pub mod Naming
pub mod Numbered
pub mod Phrasing
pub mod Reserving
pub mod Scripts
pub mod Steps
