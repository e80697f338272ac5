pub mod Keys
pub mod Laws
pub mod Lines
pub mod Private
pub mod Readings
pub mod Reads
pub mod Writes
