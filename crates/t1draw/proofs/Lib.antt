pub mod AnAnswer
pub mod GlyphWordLemmas
pub mod OneAnswer
pub mod Spelled
pub mod Pictures
pub mod Slices
