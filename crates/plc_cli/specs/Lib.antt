-- what contracts of public calls say
pub mod Answer
pub mod Certificates
pub mod Completeness
pub mod Files
pub mod Headline
pub mod Laws
pub mod Locations
pub mod Program
pub mod Reads
pub mod Refusals
pub mod Requests
pub mod Samples
pub mod Served
pub mod Statuses
pub mod Suggestions
pub mod Verdicts
-- words of private functions alone
pub mod Views
