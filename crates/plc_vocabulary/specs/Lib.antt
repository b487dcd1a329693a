-- what contracts of public calls say
pub mod Points
pub mod Parts
pub mod Marks
pub mod Acts
pub mod Setting
pub mod Sorts
pub mod Fit
pub mod WellSorted
pub mod Numbers
-- words of private functions alone
pub mod Kinds
pub mod Unlisted
