-- The statements of laws.
pub mod Cipher
pub mod Eexec
pub mod Segments
