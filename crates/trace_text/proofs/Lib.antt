pub mod Appending
pub mod Words
pub mod ShortLines
pub mod ShortNames
pub mod Places
pub mod Marks
