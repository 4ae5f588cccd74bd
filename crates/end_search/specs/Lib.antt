pub mod Below
pub mod Gates
pub mod Matching
pub mod Near
pub mod Sharing
pub mod Sides
pub mod Tables
pub mod Wishes
