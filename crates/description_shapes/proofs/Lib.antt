pub mod Calculating
pub mod Members
pub mod Tables
pub mod Walks
