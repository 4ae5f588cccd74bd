pub mod Counts
pub mod MemoryShelves
pub mod MemorySinks
pub mod Shelves
pub mod Sinks
pub mod Told
pub mod Texts
