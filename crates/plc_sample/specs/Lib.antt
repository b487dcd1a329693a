-- what contracts of public calls say
pub mod Numbers
pub mod Sample
