use Rattle.std.proofs.Common.{map, string_bytes, take}
use Rattle.std.specs.List.{AllZip}
use Rattle.t1_answer_all.specs.Listing.{IsGlobOf}
use Rattle.t1_names.specs.GlobValues.{glob_of}
use Rattle.t1_answer_all.proofs.listing.globs_of.Given as goal

abbrev pub invariant-loop-text : goal.invariant-loop-text
invariant-loop-text l = AllZip IsGlobOf (map string_bytes (take l.text-index l.texts)) (map glob_of l.globs.items)
