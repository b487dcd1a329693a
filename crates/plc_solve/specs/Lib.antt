-- what contracts of public calls say
pub mod Answers
-- words of private functions alone
pub mod Search
pub mod Measure
