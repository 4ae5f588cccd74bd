pub mod Latches
pub mod Noted
