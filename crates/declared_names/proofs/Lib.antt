mod Lists
mod Placed
pub mod Reading
pub mod Sizes
