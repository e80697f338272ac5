use Rattle.std.proofs.Common.{◌≡◌, false, take}
use Rattle.std.specs.List.{list_any}
use Rattle.t1_names.specs.GlobValues.{glob_of}
use Rattle.t1_names.specs.Globs.{does_match}
use Rattle.t1_names.proofs.globs.does_one_match.Given as goal

abbrev pub invariant-loop-glob : goal.invariant-loop-glob
invariant-loop-glob l = list_any (λ glob. does_match (glob_of glob) l.name) (take l.glob-index l.globs) ≡ false
