pub mod Layout
pub mod Rising
pub mod Flags
pub mod Gathered
pub mod Kinds
pub mod Common
