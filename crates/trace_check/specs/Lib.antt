pub mod FirstLines
pub mod Order
pub mod Orders
pub mod Along
pub mod Checking
pub mod Going
pub mod Taking
pub mod Lines
