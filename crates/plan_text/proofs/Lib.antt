pub mod Listed
pub mod Texts
pub mod Places
pub mod Clashing
pub mod Entries
pub mod Names
pub mod Unseen
pub mod Walking
