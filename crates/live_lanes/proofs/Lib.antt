mod Beginning
mod Called
mod Drawing
mod Lists
mod Orders
mod Runs
mod Seated
mod Working
