pub mod EachToken
pub mod Lines
pub mod Pieces
pub mod Steps
pub mod Unique
