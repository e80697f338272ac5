-- Words that private contracts alone cite.
pub mod Checking
pub mod Counts
pub mod Handing
pub mod Rows
