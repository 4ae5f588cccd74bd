pub mod Legal
pub mod Quieting
pub mod Texts
pub mod Running
pub mod Standing
pub mod Sizes
