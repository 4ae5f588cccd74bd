pub mod Cores
pub mod Made
pub mod Ready
pub mod Standing
pub mod Turning
pub mod Awake
pub mod Lawful
pub mod Resting
