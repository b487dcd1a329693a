-- what contracts of public calls say
pub mod Answered
pub mod Fit
pub mod Loading
pub mod Marks
pub mod Verdicts
pub mod Certified
pub mod Open
pub mod Outlined
pub mod Strongest
-- words of private functions alone
pub mod Refusals
pub mod Counterexamples
