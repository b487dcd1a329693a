-- what contracts of public calls say
pub mod Reach
pub mod Meaning
pub mod Outlines
pub mod Answers
pub mod Fit
-- words of private functions alone
pub mod Context
pub mod Views
