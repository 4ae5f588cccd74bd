pub mod Counts
mod Steps
mod Callable
mod Few
mod Gifts
mod ReadingSteps
