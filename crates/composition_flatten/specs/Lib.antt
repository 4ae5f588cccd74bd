pub mod Joins
pub mod Keys
pub mod Links
pub mod Named
pub mod Outers
pub mod Within
