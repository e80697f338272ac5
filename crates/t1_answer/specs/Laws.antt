-- The statements of laws.
pub mod Answers
pub mod Runs
