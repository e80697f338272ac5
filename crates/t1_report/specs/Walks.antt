-- A report that is returned one fault at a time, from a mark on.
use Rattle.std.specs.Prelude.{◌≡◌, ℕ, zero, suc, ◌+◌, ◌-◌, ◌≤◌, ◌⊎◌, List, [], ◌∷◌, drop, length, take, ◌==◌, nat_lt, if◌then◌else◌, Option, Some, None, slice_range}
use Rattle.t1_io.specs.Devices.{one_more}
use Rattle.t1_char.specs.Steps.{steps_of}
use Rattle.t1_rules.specs.Book.{number_of}
use Rattle.t1_report.specs.declared.marks.Mark.{Mark}
use Rattle.t1_report.specs.Checked.{CheckedFont, step_limit}
use Rattle.t1_report.specs.Faults.{FaultValue}
use Rattle.t1_report.specs.Reports.{Comes, IsBefore, IsViolationOf, Place, path_at, place_of, IsTold, is_broken_below, spot, spot_of}
use Rattle.std.specs.List.{All, sum_by, range_with_len}
use Rattle.t1_rules.specs.Components.{glyph_named}
use Rattle.t1_report.specs.Waivers.{Waiver}

-- A place and its rule come after a mark.
abbrev pub IsLater : Mark → Place → Type 0
IsLater mark p = Comes (spot mark.unit mark.step mark.rule) (spot_of p)

-- The mark that is before all faults.
abbrev pub first_mark : Mark
first_mark = record { number = 0; unit = 0; step = 0; rule = 0 }

-- The mark of a fault.
abbrev pub mark_of : FaultValue → Mark
mark_of fault =
    record { number = fault.number; unit = fault.unit; step = fault.step; rule = number_of fault.rule }

-- Over any violations: the fault is the least of them after a mark.
pub record IsNextOf (Violated : Place → Type 0) (path_of : Place
    → List ℕ) (mark : Mark) (fault : FaultValue) : Type 0 where
  pub violation : IsViolationOf Violated path_of fault
  pub later : IsLater mark (place_of fault)
  pub first : (p : Place) → Violated p → IsLater mark p → (place_of fault ≡ p) ⊎ IsBefore (place_of fault) p
  pub number : fault.number ≡ one_more mark.number

abbrev pub HasNoneLaterOf : (Place → Type 0) → Mark → Type 0
HasNoneLaterOf Violated mark = (p : Place) → Violated p → IsLater mark p → ⊥

-- The next fault of a font's report, and that there is none.
abbrev pub IsNext : CheckedFont → List Waiver → Mark → FaultValue → Type 0
IsNext font waivers mark fault = IsNextOf (IsTold font waivers) (path_at font) mark fault

abbrev pub HasNoneLater : CheckedFont → List Waiver → Mark → Type 0
HasNoneLater font waivers mark = HasNoneLaterOf (IsTold font waivers) mark

-- Over any violations: these are the faults after a mark, each the next one, until there is none.
abbrev pub AreLaterOf : (Place → Type 0) → (Place → List ℕ) → Mark → List FaultValue → Type 0
AreLaterOf Violated path_of mark [] = HasNoneLaterOf Violated mark
AreLaterOf Violated path_of mark (fault ∷ rest) =
    IsNextOf Violated path_of mark fault × AreLaterOf Violated path_of (mark_of fault) rest

-- The faults after a mark, in a font.
abbrev pub AreLater : CheckedFont → List Waiver → Mark → List FaultValue → Type 0
AreLater font waivers mark faults = AreLaterOf (IsTold font waivers) (path_at font) mark faults

-- How many steps are requested for a whole glyph: each up to the limit, and one more.
unfoldable pub turns_of_glyph : CheckedFont → ℕ → ℕ
turns_of_glyph font glyph = length (take (step_limit font) (steps_of font.value glyph)) + 1

-- How many for a unit: the font is unit 0 and takes no turn.
abbrev pub turns_of_unit : CheckedFont → ℕ → ℕ
turns_of_unit font zero = 0
turns_of_unit font (suc glyph) = turns_of_glyph font glyph

-- For so many units, the first of them this one.
unfoldable pub turns_of : CheckedFont → ℕ → ℕ → ℕ
turns_of font from n = sum_by (turns_of_unit font) (range_with_len from n)

-- For the units from one on that are before another: 0 where there are none.
abbrev pub turns_before : CheckedFont → ℕ → ℕ → ℕ
turns_before font from unit = turns_of font from (unit - from)

-- Of a unit's first turns those up to the first step that breaks the rule of a number: a turn is requested unless a
-- step before it breaks the rule.
unfoldable pub turns_up_to : CheckedFont → ℕ → ℕ → ℕ → ℕ
turns_up_to font unit n turns =
    sum_by (λ (turn : ℕ). if is_broken_below font unit turn n then 0 else 1) (range_with_len 1 turns)

-- How many steps are requested for a waiver: those of its glyph up to the first that breaks its rule; all turns of
-- the glyph where none does; none where the font has no such glyph.
abbrev pub turns_for : CheckedFont → ℕ → Option ℕ → ℕ
turns_for font n None = 0
turns_for font n (Some glyph) = turns_up_to font (suc glyph) n (turns_of_glyph font glyph)

abbrev pub turns_of_waiver : CheckedFont → Waiver → ℕ
turns_of_waiver font w = turns_for font (number_of w.1) (glyph_named font.value w.0)

-- The place of the first waiver that a walk tests, which began at a unit and a step. It is that of the step where
-- it began with the waivers' unit, none where it began after that, and else the first.
abbrev pub first_asked : CheckedFont → List Waiver → ℕ → ℕ → ℕ
first_asked font waivers from step =
    if nat_lt from (length font.value.glyphs + 1) then 0
    else (if from == length font.value.glyphs + 1 then step - 1 else length waivers)

-- How many steps are requested for the waivers up to a place, in a walk that began at a unit and a step.
unfoldable pub turns_asked : CheckedFont → List Waiver → ℕ → ℕ → ℕ → ℕ
turns_asked font waivers from first to =
    sum_by (turns_of_waiver font) (slice_range waivers (first_asked font waivers from first) to)

-- How many steps were requested up to a step of a unit, in a walk that began at a unit and a step: for the units
-- before, and then for the steps of the glyph, or for the waivers up to that of the step.
abbrev pub turns_at : CheckedFont → List Waiver → ℕ → ℕ → ℕ → ℕ → ℕ
turns_at font waivers from first zero step = 0
turns_at font waivers from first (suc glyph) step =
    turns_before font from (suc glyph)
    + (if glyph == length font.value.glyphs then turns_asked font waivers from first step else step)

-- And in all.
abbrev pub turns_in_all : CheckedFont → List Waiver → ℕ → ℕ → ℕ
turns_in_all font waivers from first =
    turns_before font from (length font.value.glyphs + 1) + turns_asked font waivers from first (length waivers)

-- So far k faults of a report were returned, and k is the mark's number. The first k faults don't come after the
-- mark, the others do.
pub record IsSoFar (faults : List FaultValue) (k : ℕ) (mark : Mark) : Type 0 where
  pub given : k ≤ length faults
  pub passed : All (λ fault. IsLater mark (place_of fault) → ⊥) (take k faults)
  pub coming : All (λ fault. IsLater mark (place_of fault)) (drop k faults)
  pub number : mark.number ≡ k
