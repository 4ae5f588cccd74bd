pub mod Parts
pub mod Answered
pub mod Most
pub mod Settling
pub mod Returning
pub mod Listing
