use Rattle.std.proofs.Common.{◌≡◌, ◌++◌, string_bytes, take}
use Rattle.std.specs.List.{flat_map}
use Rattle.t1_picture.specs.CauseTexts.{cause_line}
use Rattle.t1_picture.proofs.cause_groups.write_misses.Given as goal

abbrev pub invariant-loop-cause : goal.invariant-loop-cause
invariant-loop-cause l = string_bytes l.svg ≡ string_bytes l.fn.svg ++ flat_map cause_line (take l.cause-index l.causes)
