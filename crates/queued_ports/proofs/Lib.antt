pub mod Arriving
pub mod Blocks
pub mod Counts
pub mod Made
pub mod Sending
pub mod Taking
pub mod Free
