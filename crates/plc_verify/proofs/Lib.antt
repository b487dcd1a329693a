pub mod Points
pub mod Runs
pub mod Fitting
pub mod Passages
pub mod Closing
pub mod Refused
pub mod OneStep
