pub mod Lines
pub mod Numbers
pub mod Tallies
pub mod Sessions
