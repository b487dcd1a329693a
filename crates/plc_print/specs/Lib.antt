-- what contracts of public calls say
pub mod Outlines
pub mod Canonical
pub mod Laws
pub mod Text
-- words of private functions alone
pub mod Pieces
