mod Digits
mod Fetching
mod Plain
