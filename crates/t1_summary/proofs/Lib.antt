pub mod Counts
pub mod Orders
pub mod RuleLines
pub mod TallyCounts
