mod Padded
mod Clamped
