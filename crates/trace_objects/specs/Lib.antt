pub mod Standing
pub mod Clauses
pub mod Resting
pub mod Unrest
pub mod Going
