pub mod Answers
pub mod CommandLine
pub mod Draws
pub mod Folders
pub mod Given
pub mod Laws
pub mod Private
