pub mod Headers
pub mod Laws
pub mod Nested
pub mod Numbers
pub mod Pairs
pub mod Readers
pub mod Words
