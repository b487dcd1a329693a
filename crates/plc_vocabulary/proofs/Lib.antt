pub mod ActSorts
pub mod Ascent
pub mod Fitting
pub mod NodeSorts
pub mod Runs
pub mod Labelled
mod Listed
