pub mod Each
pub mod Moments
pub mod Nexts
pub mod Told
pub mod Tracking
pub mod Walking
pub mod Watching
