mod Holders
mod Leads
mod Touching
mod Misses
