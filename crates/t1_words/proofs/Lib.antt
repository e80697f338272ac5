pub mod NumbersRead
pub mod PairsFound
pub mod PairsRead
pub mod Steps
pub mod WordsRead
