mod Known
mod Showing
