pub mod Pointing
pub mod Invoking
pub mod Using
pub mod Serving
pub mod Few
pub mod Sharing
