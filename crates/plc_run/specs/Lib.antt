-- what contracts of public calls say
pub mod Fit
pub mod Laws
pub mod Observed
pub mod Position
pub mod Quiet
pub mod Refusals
pub mod Run
-- words of private functions alone
pub mod Ended
pub mod Reach
