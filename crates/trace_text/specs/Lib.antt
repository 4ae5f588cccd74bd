pub mod Appending
pub mod Short
pub mod Beside
