-- What private functions do.
pub mod Lines
