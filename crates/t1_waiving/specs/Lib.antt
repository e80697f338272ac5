pub mod FontTexts
pub mod GlyphLines
pub mod Laws
pub mod Private
pub mod Reports
pub mod TooMany
pub mod Waived
