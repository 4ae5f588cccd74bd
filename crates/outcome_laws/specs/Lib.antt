pub mod Outcomes
pub mod Flattened
