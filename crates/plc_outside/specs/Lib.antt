-- what contracts of public calls say
pub mod Counts
pub mod Failures
pub mod FixedBytes
pub mod HonestFiles
pub mod Known
pub mod Outside
pub mod Reading
pub mod Real
pub mod StoredBytes
pub mod StoredFiles
