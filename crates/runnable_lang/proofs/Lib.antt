pub mod Capped
pub mod Firsts
pub mod Views
