-- what contracts of public calls say
pub mod Execution
pub mod Items
-- words of private functions alone
pub mod Bounds
