mod Feeding
mod Moving
mod Texts
