pub mod Firsts
pub mod Numbering
pub mod Finding
pub mod Starting
pub mod Few
