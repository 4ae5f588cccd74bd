pub mod Firsts
pub mod Gathering
pub mod Tallied
pub mod Tallying
pub mod Passing
pub mod Modes
pub mod Spending
