pub mod DocumentLaws
pub mod DocumentPlaces
pub mod DocumentResults
pub mod GivenLines
pub mod Objects
pub mod PieceLaws
pub mod Readings
pub mod T1checkLaws
