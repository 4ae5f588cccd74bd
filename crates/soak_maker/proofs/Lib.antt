pub mod Depths
pub mod Scripts
mod Lists
mod Soaked
mod Names
mod Reading
mod Held
mod Flat
mod Joins
mod Programs
mod Mapped
mod Sizes
mod Shapes
mod Catalogs
mod References
mod Distinct
mod Law
