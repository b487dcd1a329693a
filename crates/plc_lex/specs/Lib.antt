-- what contracts of public calls say
pub mod Characters
pub mod Refused
pub mod Spelling
pub mod Stops
pub mod Texts
-- words of private functions alone
pub mod Reading
