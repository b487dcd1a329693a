-- what contracts of public calls say
pub mod Clauses
