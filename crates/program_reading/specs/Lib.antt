pub mod Words
pub mod Keywords
pub mod Expressions
pub mod Variables
pub mod Statements
pub mod Programs
