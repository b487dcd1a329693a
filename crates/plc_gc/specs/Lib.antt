-- what contracts of public calls say
pub mod Claims
pub mod Clauses
pub mod Laws
pub mod Position
pub mod Primitives
pub mod Ranges
pub mod Reached
pub mod Run
pub mod RunLaws
pub mod State
pub mod Threads
pub mod Unmarked
-- words of private functions alone
pub mod Fit
pub mod Named
pub mod Reach
