pub mod NoneLeft
pub mod TextsRead
pub mod TooManyTold
pub mod WaivedReports
pub mod WrittenOnce
