pub mod Lists
pub mod Spreads
pub mod Ends
pub mod Grouped
pub mod Bundled
