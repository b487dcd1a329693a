-- what contracts say for the crates above alone
pub mod Running
-- what contracts of public calls say
pub mod Racing
pub mod Leaving
pub mod Following
-- words of private functions alone
pub mod Walking
pub mod Drawing
pub mod Shortening
