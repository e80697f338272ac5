use Rattle.std.proofs.Common.{◌≡◌, ◌++◌, string_bytes, take}
use Rattle.std.specs.List.{flat_map}
use Rattle.t1_pieces.proofs.entries.add_numbers.Given as goal
use Rattle.t1_pieces.specs.Entries.{next_number}

abbrev pub invariant-loop-number : goal.invariant-loop-number
invariant-loop-number l = string_bytes l.text ≡ string_bytes l.fn.text ++ flat_map next_number (take l.number-index l.numbers)
