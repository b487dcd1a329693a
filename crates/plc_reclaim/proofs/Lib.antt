pub mod Allowing
mod Numbers
mod Picks
mod Positions
mod Watching
