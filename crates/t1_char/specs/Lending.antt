-- What a call of a machine leaves, once its reference to the step is dropped.
use Rattle.std.specs.Prelude.{◌≡◌}
use Rattle.std.specs.Borrow.{Fml, MutBor}
use Rattle.t1_char.specs.Editions.{limit_of}
use Rattle.t1_char.specs.Loans.{Afterwards}
use Rattle.t1_char.specs.Steps.{steps_of}
use Rattle.t1_char.specs.Turns.{MachineView, counted_after}

-- It was called once more, up to the first end or limit; font, glyph and edition stay.
abbrev pub IsAskedOnceMore : MachineView → MachineView → Type 0
IsAskedOnceMore before after =
    (after.counted ≡ counted_after (limit_of before.edition) (steps_of before.font before.glyph) before.counted)
    × (after.font ≡ before.font) × (after.glyph ≡ before.glyph) × (after.edition ≡ before.edition)

abbrev pub MovesOn : MutBor MachineView → Fml
MovesOn m = Afterwards m (λ last. IsAskedOnceMore m.now last)
