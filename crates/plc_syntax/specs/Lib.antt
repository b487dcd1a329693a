-- the grammar, and what contracts of public calls say
pub mod Answers
pub mod Depth
pub mod Faults
pub mod Forms
pub mod Fronts
pub mod Marks
pub mod Nesting
pub mod Stops
pub mod Syntax
pub mod Trees
pub mod Views
