-- what contracts of public calls say
pub mod Scope
pub mod Primitives
pub mod Answers
pub mod Limits
pub mod Views
-- words of private functions alone
pub mod Reused
