pub mod Written
pub mod Tuples
pub mod Fitting
pub mod Prefixes
