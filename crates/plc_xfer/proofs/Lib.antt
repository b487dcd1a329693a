pub mod Rows
pub mod Kept
pub mod Locations
pub mod Facts
pub mod ByFacts
pub mod Keeps
pub mod Order
