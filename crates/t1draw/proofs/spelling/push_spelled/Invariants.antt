use Rattle.std.proofs.Common.{◌≡◌, ◌++◌, drop, string_bytes}
use Rattle.std.specs.List.{flat_map}
use Rattle.t1draw.specs.Folders.{spelled, spelled_byte}
use Rattle.t1draw.proofs.spelling.push_spelled.Given as goal

abbrev pub invariant-loop-byte : goal.invariant-loop-byte
invariant-loop-byte l = string_bytes l.text ++ flat_map spelled_byte (drop l.byte-index l.name) ≡ string_bytes l.fn.text ++ spelled l.name
