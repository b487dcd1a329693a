-- what contracts of public calls say
pub mod Pages
-- words of private functions alone
pub mod Going
