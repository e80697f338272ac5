use Rattle.std.proofs.Common.{◌≡◌, drop}
use Rattle.std.specs.List.{fold}
use Rattle.t1_reasons.specs.StemSearches.{nearer_end}
use Rattle.t1_reasons.proofs.stem_search.StemSearch.nearest_with.Given as goal

abbrev pub invariant-loop-traced : goal.invariant-loop-traced
invariant-loop-traced l = fold (nearer_end l.self.stem) l.best (drop l.traced-index l.segments) ≡ fold (nearer_end l.self.stem) l.self.nearest l.segments
