-- The settings file of a first path.
pub mod Finding
pub mod Paths
pub mod Reading
pub mod Values
