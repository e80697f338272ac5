-- How often the kinds of a font's faults were found, and are known.
use Rattle.std.specs.Prelude.{◌≡◌, ℕ, ◌<◌, true, List, map}
use Rattle.std.specs.List.{AllByRecursion}
use Rattle.t1_many.specs.Counts.{count_in, has_kind, text_counts}
use Rattle.t1_many.specs.Kinds.{KindValue, UnitValue, kind_text, of_glyph, of_key, of_waiver}
use Rattle.t1_many.specs.Known.{key_of, kind_in}
use Rattle.t1_many.specs.KnownFaults.{counts_of, is_word}
use Rattle.t1_many.specs.Verdicts.{told_faults}
use Rattle.t1_report.specs.Checked.{CheckedFont}
use Rattle.t1_report.specs.Faults.{FaultValue}
use Rattle.t1_report.specs.Lines.{IsInFont}
use Rattle.t1_report.specs.Reports.{IsReport}
use Rattle.t1_report.specs.Waivers.{Waiver}
use Rattle.t1_rules.specs.Keys.{key_count}
use Rattle.t1_rules.specs.declared.mask.Mask.{Mask}

-- A key is one of the 22, and a name has no blank. So two units have two texts.
abbrev pub IsUnit : UnitValue → Type 0
IsUnit (of_key key) = key < key_count
IsUnit (of_glyph name) = is_word name ≡ true
IsUnit (of_waiver name waived) = is_word name ≡ true

-- Kinds, by their texts, were counted: so often each, in the order of their first places.
pub record AreCounts (kinds : List (List ℕ)) (counts : List (KindValue × ℕ)) : Type 0 where
  pub units : AllByRecursion (λ c. IsUnit c.0.unit) counts
  pub texts : text_counts counts ≡ counts_of kinds

-- The kinds of a report's faults were counted, of those that are reported. All of its faults are in the font.
abbrev pub CountsReport : Mask → CheckedFont → List Waiver → List (KindValue × ℕ) → Type 0
CountsReport rules font waivers counts =
    (faults : List FaultValue) × IsReport font waivers faults × AllByRecursion (IsInFont font.value waivers) faults
    × AreCounts (map (kind_in font.value waivers) (told_faults rules faults)) counts

-- Each kind that was found in the font of this name is counted as often as it is known of it.
abbrev pub AreKnown : (List ℕ → ℕ) → List ℕ → List (KindValue × ℕ) → List (KindValue × ℕ) → Type 0
AreKnown known name found counts =
    (kind : KindValue) → has_kind found kind ≡ true → count_in counts kind ≡ known (key_of (kind_text kind) name)
