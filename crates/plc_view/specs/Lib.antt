-- what contracts of public calls say
pub mod Requests
pub mod Showing
-- words of private functions alone
pub mod Views
