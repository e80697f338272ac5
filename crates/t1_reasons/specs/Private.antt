-- Words that private contracts alone cite.
pub mod Executing
pub mod Searching
