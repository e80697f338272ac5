use Rattle.std.proofs.Common.{◌≡◌, ◌<◌, ◌++◌, ℕ, ◌-◌, List}
use Rattle.std.specs.Fmt.{HasWritten, IsPlainFormatter}
use Rattle.t1_reason_texts.specs.Decimals.{fraction, one_of, places}
use Rattle.t1_reason_texts.proofs.decimals.FractionDisplay.fmt.Given as goal

abbrev pub invariant-loop-place : goal.invariant-loop-place
invariant-loop-place g l = record {
  below : l.rest < 1000000000000000000;
  written : IsPlainFormatter l.fn.f → (done : List ℕ) × HasWritten g.W.Write.write_str_gives l.fn.f done l.f
      × (done ++ places (one_of l.self.unit) (34 - l._place) l.rest ≡ fraction (one_of l.self.unit) l.fn.self.rest);
}
