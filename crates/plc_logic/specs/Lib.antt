-- what contracts of public calls say
pub mod Negation
pub mod Marks
pub mod Sites
pub mod Fit
pub mod Sorts
