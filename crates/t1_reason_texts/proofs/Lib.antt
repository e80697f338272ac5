pub mod ExactPlaces
pub mod PlainParts
pub mod PlainTexts
pub mod ShownNames
pub mod ShownWords
