pub mod Exact
pub mod Found
pub mod Leading
pub mod Outcomes
pub mod Safe
