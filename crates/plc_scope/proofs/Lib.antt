pub mod Alike
pub mod Sequence
pub mod Holds
pub mod Limits
pub mod Finds
pub mod Turns
