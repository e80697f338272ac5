-- The report of a font: its violations by place, each once, numbered from 1.
use Rattle.std.specs.Prelude.{◌≡◌, ℕ, zero, suc, ◌+◌, ◌/◌, ◌%◌, ◌<◌, ◌⊎◌, ◌==◌, ◌&&◌, nat_lt, if◌then◌else◌, Bool, true, false, Option, Some, None, List, [], length, map, slice_get, ◌||◌, not, ◌++◌}
use Rattle.std.specs.List.{All, AllPairs, Any, range_with_len}
use Rattle.t1_char.specs.declared.edition.Edition.{Edition}
use Rattle.t1_char.specs.Editions.{has_latest_rules}
use Rattle.t1_char.specs.Steps.{StepView, steps_of}
use Rattle.t1_drawing.specs.declared.font_box.FontBox.{FontBox}
use Rattle.t1_drawing.specs.DrawingRules.{box_of, drawing_rules}
use Rattle.t1_font.specs.Fonts.{FontValue, glyph_name}
use Rattle.t1_rules.specs.declared.rule.Rule.{Rule}
use Rattle.t1_rules.specs.FontRules.{font_rules, violated}
use Rattle.t1_rules.specs.declared.rule.Rule.TheVariants.{L01, U01}
use Rattle.t1_rules.specs.declared.sidebearings.Component.{Component}
use Rattle.t1_rules.specs.Components.{components_of, glyph_named}
use Rattle.t1_rules.specs.StepRules.{StepRule, breaks_at, charstring_rules}
use Rattle.t1_rules.specs.Book.{number_of}
use Rattle.t1_report.specs.Checked.{CheckedFont, step_limit}
use Rattle.t1_report.specs.Faults.{FaultValue}
use Rattle.t1_report.specs.Waivers.{Waiver, is_waived}
use Rattle.t1_rules.specs.Keys.{index_count}

-- A place and a rule: unit 0 is the font, whose step is 65,536 times a key's number plus an index.
pub record Place : Type 0 where
  pub unit : ℕ
  pub step : ℕ
  pub rule : Rule

-- A place by numbers alone: the rule's is 0 before all rules.
pub record Spot : Type 0 where
  pub unit : ℕ
  pub step : ℕ
  pub rule : ℕ

abbrev pub spot : ℕ → ℕ → ℕ → Spot
spot unit step rule = record { unit = unit; step = step; rule = rule }

abbrev pub spot_of : Place → Spot
spot_of p = spot p.unit p.step (number_of p.rule)

-- The order of places: by unit, then step, then the rule's number.
abbrev pub Comes : Spot → Spot → Type 0
Comes p q =
    (p.unit < q.unit) ⊎ ((p.unit ≡ q.unit) × ((p.step < q.step) ⊎ ((p.step ≡ q.step) × (p.rule < q.rule))))

-- The first place comes before the second.
abbrev pub IsBefore : Place → Place → Type 0
IsBefore p q = Comes (spot_of p) (spot_of q)

-- What the step at a place of a glyph breaks, where places count from 0: up to the limit what the rules say of it;
-- at the limit, which is the first step past it, the rule on the limit alone.
abbrev pub step_breaks : ℕ → List StepRule → ℕ → List StepView → ℕ → Bool
step_breaks limit rules n steps place =
    if nat_lt place limit then breaks_at rules n steps place
    else (place == limit && nat_lt place (length steps)) && number_of L01 == n

-- The rules on steps by an edition, where the components of accented characters, and FontBBox, are these: those on charstrings, and where the
-- edition has them those on the drawing.
abbrev pub rules_with : Edition → List Component → Option FontBox → List StepRule
rules_with edition components box =
    if has_latest_rules edition then charstring_rules edition components ++ drawing_rules box else charstring_rules edition components

-- Those of a font, whose components of accented characters are looked at up to the limit.
unfoldable pub rules_of : CheckedFont → List StepRule
rules_of font = rules_with font.edition (components_of (step_limit font) font.value) (box_of font.value)

-- The rule of a number is broken at a unit and a step: in the font at the key and the index of the step, in a
-- glyph at one of its steps, which count from 1.
unfoldable pub is_broken : CheckedFont → ℕ → ℕ → ℕ → Bool
is_broken font zero step n = violated (font_rules font.edition) n font.value (step / index_count) (step % index_count)
is_broken font (suc glyph) zero n = false
is_broken font (suc glyph) (suc i) n =
    nat_lt glyph (length font.value.glyphs)
    && step_breaks (step_limit font) (rules_of font) n (steps_of font.value glyph) i

-- The rule of a number is broken in a unit at a step below this one.
unfoldable pub is_broken_below : CheckedFont → ℕ → ℕ → ℕ → Bool
is_broken_below font unit zero n = false
is_broken_below font unit (suc step) n =
    is_broken font unit step n || is_broken_below font unit step n

-- A waiver is used where the glyph of its name breaks its rule at one of its steps: the first past the limit
-- is the last that can.
abbrev pub is_used_by : CheckedFont → ℕ → Option ℕ → Bool
is_used_by font n None = false
is_used_by font n (Some glyph) = is_broken_below font (suc glyph) (step_limit font + 2) n

abbrev pub is_used : CheckedFont → Waiver → Bool
is_used font w = is_used_by font (number_of w.1) (glyph_named font.value w.0)

abbrev pub is_unused : CheckedFont → Option Waiver → Bool
is_unused font None = false
is_unused font (Some w) = not (is_used font w)

-- The waiver of a step, by its place from 1, isn't used: the rule on that is broken there.
abbrev pub tells_unused : CheckedFont → List Waiver → ℕ → ℕ → Bool
tells_unused font waivers zero n = false
tells_unused font waivers (suc i) n =
    number_of U01 == n && is_unused font (slice_get waivers i)

-- What is reported, given these waivers: of the font what is broken; of a glyph what is broken and not waived; in
-- the unit after the last glyph's the waivers that aren't used.
unfoldable pub is_told : CheckedFont → List Waiver → ℕ → ℕ → ℕ → Bool
is_told font waivers zero step n = is_broken font zero step n
is_told font waivers (suc glyph) step n =
    if glyph == length font.value.glyphs then tells_unused font waivers step n
    else is_broken font (suc glyph) step n && not (is_waived waivers (glyph_name font.value glyph) n)

-- The rule is violated at the place, and not waived; or a waiver isn't used.
abbrev pub IsTold : CheckedFont → List Waiver → Place → Type 0
IsTold font waivers p = is_told font waivers p.unit p.step (number_of p.rule) ≡ true

-- Where a fault is.
abbrev pub place_of : FaultValue → Place
place_of fault = record { unit = fault.unit; step = fault.step; rule = fault.rule }

-- The Subrs that are being executed at a unit and a step, the outermost first: none in the font, nor where
-- there is no glyph.
abbrev pub path_of_step : Option StepView → List ℕ
path_of_step None = []
path_of_step (Some step) = step.path

unfoldable pub path_in : FontValue → ℕ → ℕ → List ℕ
path_in font zero step = []
path_in font (suc glyph) zero = []
path_in font (suc glyph) (suc i) =
    if nat_lt glyph (length font.glyphs) then path_of_step (slice_get (steps_of font glyph) i) else []

abbrev pub path_at : CheckedFont → Place → List ℕ
path_at font p = path_in font.value p.unit p.step

-- The fault is at this place.
abbrev pub StandsAt : Place → FaultValue → Type 0
StandsAt p fault = place_of fault ≡ p

-- The faults rise strictly by their places.
abbrev pub IsRising : List FaultValue → Type 0
IsRising faults = AllPairs (λ earlier later. IsBefore (place_of earlier) (place_of later)) faults

-- The faults are numbered from n, one after another.
abbrev pub AreNumbered : ℕ → List FaultValue → Type 0
AreNumbered n faults = map (λ fault. fault.number) faults ≡ range_with_len n (length faults)

-- Over any violations, and what the path of each place is: a fault is a violation, with the path of its
-- place.
pub record IsViolationOf (Violated : Place → Type 0) (path_of : Place
    → List ℕ) (fault : FaultValue) : Type 0 where
  pub violated : Violated (place_of fault)
  pub path : fault.path ≡ path_of (place_of fault)

-- A report of these violations: strictly rising, its members exactly the violations, numbered from 1.
pub record IsReportOf (Violated : Place → Type 0) (path_of : Place
    → List ℕ) (faults : List FaultValue) : Type 0 where
  pub rising : IsRising faults
  pub violations : All (IsViolationOf Violated path_of) faults
  pub complete : (p : Place) → Violated p → Any (StandsAt p) faults
  pub numbered : AreNumbered 1 faults

-- The report of a font by an edition, given waivers.
abbrev pub IsReport : CheckedFont → List Waiver → List FaultValue → Type 0
IsReport font waivers faults = IsReportOf (IsTold font waivers) (path_at font) faults
