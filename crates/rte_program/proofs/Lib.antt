pub mod Ending
pub mod Coming
pub mod Paired
pub mod Ran
pub mod SoakSizes
pub mod Soaks
pub mod Fed
