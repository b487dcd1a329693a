-- what contracts of public calls say
pub mod Claims
pub mod Extended
-- words of private functions alone
pub mod Needs
pub mod Reading
