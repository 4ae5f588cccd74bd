pub mod Unlisted
pub mod Naming
pub mod Keeping
pub mod Listing
