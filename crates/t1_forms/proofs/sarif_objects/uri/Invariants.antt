use Rattle.std.proofs.Common.{◌≡◌, string_bytes, take}
use Rattle.std.specs.List.{flat_map}
use Rattle.t1_forms.specs.SarifObjects.{uri_byte}
use Rattle.t1_forms.proofs.sarif_objects.uri.Given as goal

abbrev pub invariant-loop-byte : goal.invariant-loop-byte
invariant-loop-byte l = string_bytes l.uri ≡ flat_map uri_byte (take l.byte-index l.path)
