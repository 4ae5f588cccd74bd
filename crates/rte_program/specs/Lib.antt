pub mod Running
pub mod Answers
