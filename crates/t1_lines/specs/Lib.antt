pub mod Cutting
pub mod Laws
pub mod Lines
pub mod Names
pub mod Private
