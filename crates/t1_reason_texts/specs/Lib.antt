-- Definitions.
pub mod Decimals
pub mod DrawingTexts
pub mod Fields
pub mod FontTexts
pub mod Laws
pub mod Names
pub mod SeacTexts
pub mod StepTexts
pub mod Texts
pub mod WordTexts
pub mod Words
pub mod ZoneTexts
