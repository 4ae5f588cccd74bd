mod Few
mod Firsts
mod Judged
mod Lists
