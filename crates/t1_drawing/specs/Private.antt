-- Words that private contracts alone cite, and the relations of watchers (Standing). Clauses of public functions say by them only that there
-- is such a relation.
pub mod Areas
pub mod Between
pub mod Joined
pub mod Limits
pub mod Plain
pub mod Standing
pub mod Watching
