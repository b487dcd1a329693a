-- what contracts of public calls say
pub mod Terms
pub mod Keys
pub mod Same
pub mod Numbering
pub mod Tidy
pub mod Drafts
-- words of private functions alone
pub mod Growth
-- what an impl of the code cites
pub mod Equality
pub mod Cuts
