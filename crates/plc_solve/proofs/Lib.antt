pub mod Needing
pub mod Searching
pub mod Stacking
pub mod Grouping
pub mod Places
pub mod Turns
pub mod Handing
pub mod Answering
