pub mod Calculating
pub mod Judged
mod Lists
pub mod Named
pub mod Texts
pub mod Unbroken
