pub mod Kept
pub mod Laid
pub mod Packed
pub mod KeptBlocks
pub mod Free
