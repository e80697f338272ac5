-- Words that private contracts alone cite: no clause of a public function rests on them.
pub mod Entries
pub mod Items
pub mod KeyRows
pub mod KeyValues
pub mod Readings
pub mod Room
pub mod StatedSoFar
pub mod Statements
pub mod Tokens
pub mod Turning
