-- what contracts of public calls say
pub mod Laws
pub mod Lowering
pub mod Marks
pub mod Points
pub mod Sides
pub mod Skeleton
pub mod StepsByPoint
pub mod WellFormed
pub mod WellSorted
-- words of private functions alone
pub mod Builder
