-- what contracts of public calls say
pub mod Obligations
pub mod GroundSets
pub mod Programs
pub mod Outlines
pub mod Walk
pub mod Still
pub mod Untouched
pub mod Direct
pub mod Alike
-- words of private functions alone
pub mod Size
pub mod Runs
pub mod Drafting
pub mod Prefixes
