-- Words that private contracts alone cite: no clause of a public function rests on them.
pub mod Courses
pub mod Fitting
pub mod Fronts
pub mod Going
pub mod Reporting
pub mod Searches
pub mod Units
