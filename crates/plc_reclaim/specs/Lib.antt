-- what contracts of public calls say
pub mod Histories
pub mod Laws
pub mod Lookup
pub mod Meanings
pub mod Rows
-- words of private functions alone
pub mod Numbers
