pub mod Walking
pub mod Standing
pub mod Runners
