pub mod Listing
pub mod Telling
pub mod Summing
pub mod Alone
pub mod Totals
pub mod Spending
pub mod Sized
pub mod Foretelling
mod ManyLists
mod Counting
pub mod FewNumbers
