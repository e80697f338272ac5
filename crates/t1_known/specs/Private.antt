-- Words that private contracts alone cite: no clause of a public function rests on them.
pub mod Fonts
pub mod Kept
pub mod Mismatches
pub mod Updates
