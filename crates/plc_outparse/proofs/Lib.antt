pub mod Alike
pub mod AtFront
pub mod Fits
pub mod InTurn
pub mod Marked
