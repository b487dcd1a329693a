-- what contracts of public calls say
pub mod Spots
pub mod Needed
pub mod Suggestions
-- words of private functions alone
pub mod Marking
pub mod Trials
