pub mod Counts
pub mod Grouped
pub mod Listed
pub mod Made
pub mod Newly
pub mod Noted
pub mod Places
pub mod Told
