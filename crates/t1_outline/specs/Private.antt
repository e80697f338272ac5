-- Words that private contracts alone cite, and the relation of a pen (Standing). Clauses of public functions say by it
-- only that there is such a relation.
pub mod Composing
pub mod Drawing
pub mod Outlining
pub mod Standing
