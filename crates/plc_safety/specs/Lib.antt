-- what contracts of public calls say
pub mod Joint
pub mod ByRun
pub mod Located
