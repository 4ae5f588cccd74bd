mod Firsts
mod Codes
