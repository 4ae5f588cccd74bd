pub mod Around
pub mod Catalogs
pub mod Distinct
pub mod FirstPlaces
pub mod Owners
pub mod References
pub mod Rules
