use Rattle.std.proofs.Common.{◌≡◌, encode_utf8_all, flat_map, string_bytes, take}
use Rattle.t1_options.specs.Settings.Paths.{itself}
use Rattle.t1_options.proofs.settings.paths.text_of.Given as goal

abbrev pub invariant-loop-c : goal.invariant-loop-c
invariant-loop-c l = string_bytes l.text ≡ encode_utf8_all (flat_map itself (take l.c-index l.name))
