pub mod Again
pub mod AtFront
pub mod Exact
pub mod FormLaws
pub mod Loops
pub mod Nested
pub mod Places
pub mod Right
