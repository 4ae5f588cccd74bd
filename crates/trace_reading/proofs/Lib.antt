pub mod ActorTexts
mod ByKind
pub mod Callers
pub mod Cutting
pub mod DeedTexts
pub mod Guessing
pub mod Indexing
pub mod Judging
pub mod Letters
pub mod Lines
pub mod ListMarks
pub mod ListTexts
pub mod Modes
pub mod Naming
pub mod Sessions
pub mod Things
pub mod Values
pub mod Visible
mod Marks
pub mod Clauses
mod Accepted
pub mod TextCuts
mod Reached
mod SameBytes
mod Lookups
