pub mod Layout
pub mod Kept
pub mod Plans
pub mod Leading
pub mod Standing
pub mod Acting
pub mod Flags
pub mod KeptValues
