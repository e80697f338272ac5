pub mod Cipher
pub mod Eexec
pub mod Joined
pub mod Laws
pub mod Private
pub mod Readings
pub mod SealError
pub mod Segments
