pub mod Sames
