-- what contracts of public calls say
pub mod Entries
pub mod Lines
pub mod Numbers
pub mod Schedules
-- words of private functions alone
pub mod Reading
pub mod Words
pub mod NumberWords
