-- what contracts of public calls say
pub mod Environments
pub mod Trees
pub mod Validity
-- words of private functions alone
pub mod Tests
pub mod Evidence
pub mod Candidate
