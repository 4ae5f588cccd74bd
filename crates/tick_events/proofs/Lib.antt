pub mod Anew
pub mod Flags
pub mod Grouping
pub mod Seen
pub mod Tree
