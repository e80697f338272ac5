pub mod DrawnValues
pub mod Laws
pub mod Nibs
pub mod Outlines
pub mod Parts
pub mod Private
