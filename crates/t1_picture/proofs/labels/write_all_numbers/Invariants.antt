use Rattle.std.proofs.Common.{◌≡◌, ◌++◌, string_bytes, take}
use Rattle.std.specs.List.{flat_map}
use Rattle.t1_picture.specs.Pictures.{number_text}
use Rattle.t1_picture.proofs.labels.write_all_numbers.Given as goal

abbrev pub invariant-loop-mark : goal.invariant-loop-mark
invariant-loop-mark l = string_bytes l.svg ≡ string_bytes l.fn.svg ++ flat_map (number_text l.frame) (take l.mark-index l.marks)
