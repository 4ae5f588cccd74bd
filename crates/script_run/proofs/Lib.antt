pub mod Added
pub mod EntryTexts
pub mod Items
pub mod Quieting
pub mod Sessions
