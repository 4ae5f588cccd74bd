pub mod Json
pub mod Components
pub mod Parts
pub mod Soak
pub mod Script
