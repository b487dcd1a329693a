pub mod Cuts
pub mod Decimals
pub mod Limits
pub mod LinesInOrder
pub mod Unique
pub mod WordsOfEntries
pub mod WordsThatRemain
