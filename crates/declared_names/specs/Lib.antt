pub mod Values
pub mod Names
pub mod Scopes
pub mod Components
pub mod Sizes
