-- Laws of outlines, in the words of the subject.
pub mod Flexes
pub mod Fronts
pub mod Glyphs
pub mod Parts
pub mod Paths
pub mod Points
pub mod ShortForms
