use Rattle.std.proofs.Common.{◌≡◌, string_bytes, take}
use Rattle.std.specs.List.{flat_map}
use Rattle.t1_forms.specs.Shown.{shown_byte}
use Rattle.t1_forms.proofs.names.shown_bytes.Given as goal

abbrev pub invariant-loop-byte : goal.invariant-loop-byte
invariant-loop-byte l = string_bytes l.shown ≡ flat_map shown_byte (take l.byte-index l.name)
