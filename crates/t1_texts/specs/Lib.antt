pub mod Given
pub mod Private
pub mod PrivateDictionary
pub mod Readers
pub mod RowFaults
