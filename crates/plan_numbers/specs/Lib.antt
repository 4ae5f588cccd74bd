pub mod Tables
pub mod Positions
pub mod Ends
pub mod ComSpecs
pub mod Listed
pub mod Starts
