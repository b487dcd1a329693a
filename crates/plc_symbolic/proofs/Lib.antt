pub mod Sides
pub mod Places
pub mod Noting
pub mod Reading
pub mod Drafts
pub mod Cutting
