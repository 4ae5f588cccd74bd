pub mod Stages
pub mod Plans
pub mod Same
pub mod Sizes
