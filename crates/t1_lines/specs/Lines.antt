-- What a line says, and how it is spelled.
use Rattle.std.specs.Prelude.{◌≡◌, ℕ, ◌<◌, ◌≤◌, ◌^◌, List, [], ◌∷◌, ◌++◌, codes, length, IsTrue, Option, Some, None, slice_get}
use Rattle.std.specs.List.{list_all, AllByRecursion}
use Rattle.std.specs.Fmt.{decimal}
use Rattle.t1_scan.specs.Bytes.{is_regular}
use Rattle.t1_font.specs.Fonts.{FontValue, glyph_name}
use Rattle.t1_rules.specs.declared.rule.Rule.{Rule}
use Rattle.t1_rules.specs.declared.rule.Rule.TheVariants.{U01}
use Rattle.t1_rules.specs.Book.{code_of, text_of}
use Rattle.t1_rules.specs.Keys.{key_text_of, index_count, key_count}
use Rattle.t1_report.specs.Faults.{FaultValue}
use Rattle.t1_report.specs.Lines.{path_text}
use Rattle.t1_report.specs.Places.{fault_place}
use Rattle.t1_report.specs.Waivers.{Waiver}
use Rattle.t1_report.specs.declared.places.FaultPlace.{FaultPlace}
use Rattle.t1_report.specs.declared.places.FaultPlace.TheVariants.{Glyph, Key, Waiver as AtWaiver}
use Rattle.t1_lines.specs.declared.line.FaultLine.{FaultLine}
use Rattle.t1_lines.specs.declared.line.Line.{Line}
use Rattle.t1_lines.specs.declared.line.Line.TheVariants.{Fault, Refusal}
use Rattle.t1_lines.specs.declared.line.Place.{Place}
use Rattle.t1_lines.specs.declared.line.Place.TheVariants as places
use Rattle.t1_font.specs.declared.unread.RefusalCode.{RefusalCode}
use Rattle.t1_font.specs.Refusals.{refusal_text_of}
use Rattle.t1_char.specs.Effects.{most_calls}

-- A key of the font, by its number, with an index; a glyph, by its name, with the Subrs that are being
-- executed and the step; or a waiver, by its name and its rule.
pub data PlaceValue : Type 0 where
  at_key : ℕ → ℕ → PlaceValue
  at_step : List ℕ → List ℕ → ℕ → PlaceValue
  at_waiver : List ℕ → Rule → PlaceValue

pub record FaultLineValue : Type 0 where
  pub number : ℕ
  pub place : PlaceValue
  pub rule : Rule

-- A line of a report, or of a refusal.
pub data LineValue : Type 0 where
  of_fault : FaultLineValue → LineValue
  of_refusal : RefusalCode → LineValue

abbrev pub place_value : Place → PlaceValue
place_value (places.Key key index) = at_key key index
place_value (places.Step name path step) = at_step name.now path.items step
place_value (places.Waiver name rule) = at_waiver name.now rule

abbrev pub fault_line_value : FaultLine → FaultLineValue
fault_line_value l = record { number = l.number; place = place_value l.place; rule = l.rule }

abbrev pub line_value : Line → LineValue
line_value (Fault l) = of_fault (fault_line_value l)
line_value (Refusal code) = of_refusal code

-- The words of a place, and of the code of the rule that is broken there.
abbrev pub place_words : PlaceValue → List ℕ → List (List ℕ)
place_words (at_key key index) code = codes "font" ∷ key_text_of key ∷ decimal index ∷ code ∷ []
place_words (at_step name path step) code = codes "glyph" ∷ name ∷ path_text path ∷ decimal step ∷ code ∷ []
place_words (at_waiver name rule) code = codes "waiver" ∷ name ∷ code_of rule ∷ code ∷ []

-- Words, each with a blank after it, and a text.
abbrev pub spaced : List (List ℕ) → List ℕ → List ℕ
spaced [] text = text
spaced (word ∷ words) text = word ++ (32 ∷ spaced words text)

-- `NUMBER: PLACE RULE TEXT`.
abbrev pub fault_spelled : FaultLineValue → List ℕ
fault_spelled l = decimal l.number ++ (58 ∷ 32 ∷ spaced (place_words l.place (code_of l.rule)) (text_of l.rule))

-- Such a line, or `refused: CODE TEXT`.
abbrev pub spelled : LineValue → List ℕ
spelled (of_fault l) = fault_spelled l
spelled (of_refusal code) = codes "refused: " ++ refusal_text_of code

-- A key is one of the 22. A name has no blank and no delimiter, and at most ten Subrs are being executed. At a waiver
-- U01 is broken.
abbrev pub IsPlace : PlaceValue → Rule → Type 0
IsPlace (at_key key index) broken = (key < key_count) × (index < index_count)
IsPlace (at_step name path step) broken =
    IsTrue (list_all is_regular name) × (length path ≤ most_calls) × AllByRecursion (λ n. n < 2 ^ 32) path × (step < 2 ^ 32)
IsPlace (at_waiver name rule) broken = IsTrue (list_all is_regular name) × (broken ≡ U01)

pub record IsFaultLine (l : FaultLineValue) : Type 0 where
  pub number : l.number < 2 ^ 64
  pub place : IsPlace l.place l.rule

abbrev pub IsLine : LineValue → Type 0
IsLine (of_fault l) = IsFaultLine l
IsLine (of_refusal code) = Unit {0}

-- Where a fault is, with its names; a waiver that isn't there has none.
abbrev pub waiver_in : Option Waiver → PlaceValue
waiver_in None = at_waiver [] U01
waiver_in (Some w) = at_waiver w.0 w.1

abbrev pub named : FontValue → List Waiver → FaultValue → FaultPlace → PlaceValue
named font waivers fault (Key key index) = at_key key index
named font waivers fault (Glyph glyph) = at_step (glyph_name font glyph) fault.path fault.step
named font waivers fault (AtWaiver number) = waiver_in (slice_get waivers number)

abbrev pub place_in : FontValue → List Waiver → FaultValue → PlaceValue
place_in font waivers fault = named font waivers fault (fault_place font fault)

-- The line of a fault.
abbrev pub line_in : FontValue → List Waiver → FaultValue → FaultLineValue
line_in font waivers fault = record { number = fault.number; place = place_in font waivers fault; rule = fault.rule }

-- A fault's numbers are of 64 and 32 bits, and at most ten Subrs are being executed.
pub record IsSmall (fault : FaultValue) : Type 0 where
  pub number : fault.number < 2 ^ 64
  pub step : fault.step < 2 ^ 32
  pub path : AllByRecursion (λ n. n < 2 ^ 32) fault.path
  pub depth : length fault.path ≤ most_calls
