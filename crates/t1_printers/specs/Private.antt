-- Words that private contracts alone cite.
pub mod Errors
