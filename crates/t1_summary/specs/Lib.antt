pub mod Classes
pub mod Laws
pub mod Private
pub mod Rankings
pub mod Summaries
pub mod Tallies
