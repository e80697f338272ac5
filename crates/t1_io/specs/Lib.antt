pub mod Devices
pub mod Private
