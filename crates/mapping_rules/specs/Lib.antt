pub mod Naming
pub mod Groups
pub mod Edges
pub mod Listed
pub mod Waiting
pub mod Placing
pub mod InstanceRules
