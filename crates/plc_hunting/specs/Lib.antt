-- what contracts of public calls say
pub mod Texts
pub mod Racing
pub mod Requests
pub mod Program
pub mod Laws
-- words of private functions alone
pub mod Ends
pub mod Trails
pub mod Views
