mod Numbered
mod Leaving
