-- what contracts of public calls say
pub mod Calls
pub mod Laws
pub mod Rules
pub mod Typings
-- words of private functions alone
pub mod Writes
