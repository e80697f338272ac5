use Rattle.std.proofs.Common.{◌≡◌, ◌++◌, IsUtf8, string_bytes}
use Rattle.std.specs.Str.{chars}
use Rattle.std.specs.List.{flat_map}
use Rattle.t1_forms.proofs.characters.push_characters.Given as goal

abbrev pub invariant-loop-c : goal.invariant-loop-c
invariant-loop-c g l = record {
  valid : IsUtf8 l.c-iterator.rest.now;
  written : string_bytes l.text ++ flat_map g.C.Characters.written (chars l.c-iterator.rest.now)
      ≡ string_bytes l.fn.text ++ flat_map g.C.Characters.written (chars l.from);
}
