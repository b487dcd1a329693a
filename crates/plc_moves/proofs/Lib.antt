pub mod Holding
pub mod Places
pub mod Moves
pub mod Fit
