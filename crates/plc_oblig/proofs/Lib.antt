mod Joined
mod PointCounts
mod LargeSets
mod Members
mod Staying
pub mod Opposites
mod UnitTrees
mod Ending
pub mod Lists
pub mod Places
pub mod Standing
pub mod ValueSorts
pub mod Sides
mod Lengths
mod Executed
mod Wholes
mod Bounds
mod Assembled
mod WellFormed
pub mod OneSet
mod Sharing
