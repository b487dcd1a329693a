-- what contracts of public calls say
pub mod Coherence
pub mod Fit
pub mod Laws
pub mod Outcomes
pub mod Primitives
pub mod State
pub mod Undoing
-- words of private functions alone
pub mod Access
