pub mod Crossings
pub mod Parts
pub mod PortLinks
