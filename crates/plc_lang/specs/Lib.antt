-- what contracts of public calls say
pub mod Allocation
pub mod Comparison
pub mod Facts
pub mod Fields
pub mod Fit
pub mod Labels
pub mod Locals
pub mod Marks
pub mod Names
pub mod Numbering
pub mod Shape
pub mod Skeleton
pub mod Statements
pub mod Views
pub mod WellSorted
-- what an impl of the code cites
pub mod Falls
pub mod Postorder
-- words of private functions alone
pub mod Lookup
