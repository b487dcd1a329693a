-- what contracts of public calls say
pub mod Table
pub mod Location
pub mod Events
pub mod Schemes
pub mod Sets
pub mod Laws
pub mod Waiting
pub mod Locations
pub mod Following
-- words of private functions alone
pub mod Borne
pub mod Moves
