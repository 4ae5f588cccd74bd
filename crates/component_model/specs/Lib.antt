pub mod Types
pub mod Ports
pub mod Compositions
pub mod Components
pub mod Programs
pub mod Descriptions
pub mod Initials
pub mod Refusals
