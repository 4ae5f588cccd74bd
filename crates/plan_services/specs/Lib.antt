pub mod Users
pub mod Served
pub mod Shared
