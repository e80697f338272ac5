-- Words that private contracts alone cite, and the relations of watchers (Standing). Clauses of public functions say by
-- these only that there is such a relation.
pub mod BookRows
pub mod Edges
pub mod KeyTests
pub mod Quiet
pub mod Seac
pub mod Seeing
pub mod Standing
pub mod Stems
pub mod StepTests
pub mod Sums
pub mod Texts
