-- Words that private contracts alone cite: no clause of a public function rests on them.
pub mod Watching
