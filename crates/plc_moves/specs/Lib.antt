-- what contracts of public calls say
pub mod Standing
pub mod Fit
