-- what contracts of public calls say
pub mod Meaning
pub mod Units
pub mod Faults
pub mod Fit
pub mod Marks
-- words of private functions alone
pub mod Growth
pub mod Kinds
pub mod Parts
pub mod Views
