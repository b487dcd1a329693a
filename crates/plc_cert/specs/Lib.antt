-- what contracts of public calls say
pub mod Shape
pub mod Written
pub mod Fits
