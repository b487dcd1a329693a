-- what contracts of public calls say
pub mod Certificates
pub mod Claims
pub mod Counts
pub mod Names
pub mod Refusals
pub mod Replays
pub mod Samples
pub mod Steps
pub mod Suggestions
pub mod Typings
pub mod Untyped
pub mod Unproved
