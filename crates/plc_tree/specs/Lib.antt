-- what contracts of public calls say
pub mod FileViews
pub mod FormViews
pub mod Views
pub mod Whole
-- what an `impl` of the code cites
pub mod Falls
pub mod Postorder
-- words of private functions alone
pub mod Answers
pub mod Braces
pub mod Forms
