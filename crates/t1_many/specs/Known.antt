-- The lines of a font that go beyond known faults, by kinds.
use Rattle.std.specs.Prelude.{ℕ, nat_lt, List, [], ◌∷◌, codes, map}
use Rattle.std.specs.List.{concat}
use Rattle.t1_font.specs.Fonts.{FontValue}
use Rattle.t1_lines.specs.Lines.{line_in}
use Rattle.t1_many.specs.Beyond.{verdict_of}
use Rattle.t1_many.specs.KnownFaults.{found_count, kind_of}
use Rattle.t1_many.specs.Verdicts.{told_faults}
use Rattle.t1_many.specs.declared.verdict.Verdict.{Verdict}
use Rattle.t1_report.specs.Faults.{FaultValue}
use Rattle.t1_report.specs.Waivers.{Waiver}
use Rattle.t1_rules.specs.Book.{number_of}
use Rattle.t1_rules.specs.Mask.{has}
use Rattle.t1_rules.specs.declared.mask.Mask.{Mask}

-- `KIND FONT`.
abbrev pub key_of : List ℕ → List ℕ → List ℕ
key_of kind font = concat (kind ∷ codes " " ∷ font ∷ [])

-- The kind of a fault in a font.
abbrev pub kind_in : FontValue → List Waiver → FaultValue → List ℕ
kind_in font waivers fault = kind_of (line_in font waivers fault)

abbrev pub key_in : List ℕ → FontValue → List Waiver → FaultValue → List ℕ
key_in name font waivers fault = key_of (kind_in font waivers fault) name

-- Of a font with these, a fault goes beyond what is known where more of the reported faults are of its kind than are
-- known.
abbrev pub verdict_known : (List ℕ → ℕ) → Mask → List ℕ → FontValue → List Waiver → List FaultValue → FaultValue → Verdict
verdict_known counts rules name font waivers faults fault = verdict_of (has rules (number_of fault.rule))
    (nat_lt (counts (key_in name font waivers fault))
    (found_count (map (kind_in font waivers) (told_faults rules faults)) (kind_in font waivers fault)))
