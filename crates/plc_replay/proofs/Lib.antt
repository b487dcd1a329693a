mod Growing
mod Operations
pub mod Taking
mod OneEnd
mod Coming
mod Speaking
pub mod Forbidding
