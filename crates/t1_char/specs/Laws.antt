pub mod BrokenOff
pub mod Effects
pub mod Frames
pub mod Numbers
pub mod Since
pub mod Steps
pub mod Turns
pub mod Written
