pub mod Appending
pub mod FailureCounts
pub mod Pieces
pub mod ReadAnswers
pub mod Walks
