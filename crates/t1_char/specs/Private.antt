-- Words that private contracts alone cite: no clause of a public function rests on them.
pub mod Actions
pub mod Advancing
pub mod Cursors
pub mod Frames
pub mod Listings
pub mod Machines
pub mod Plain
pub mod Seacs
pub mod Steps
pub mod Sums
pub mod Taking
