pub mod Pieces
pub mod Guard
pub mod Foretold
pub mod Sized
