mod Added
mod Counted
mod Kept
mod Meanings
mod Parts
