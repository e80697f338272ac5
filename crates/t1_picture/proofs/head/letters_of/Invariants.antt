use Rattle.std.proofs.Common.{◌≡◌, ◌≤◌, ◌+◌, ◌-◌, ◌^◌, min, IsUtf8, length}
use Rattle.std.specs.Str.{chars}
use Rattle.t1_picture.specs.Pictures.{letters_of}
use Rattle.t1_picture.proofs.head.letters_of.Given as goal

abbrev pub invariant-loop-letter : goal.invariant-loop-letter
invariant-loop-letter l = record {
  valid : IsUtf8 l._letter-iterator.rest.now;
  counted : min (l.letters + length (chars l._letter-iterator.rest.now)) (2 ^ 64 - 1) ≡ letters_of l.line;
  small : l.letters ≤ 2 ^ 64 - 1;
}
