pub mod Passed
pub mod Partners
pub mod Suspects
