-- The line of a fault.
use Rattle.std.specs.Prelude.{◌≡◌, ℕ, ◌/◌, ◌≤◌, List, [], ◌∷◌, ◌++◌, codes, length, Option, Some, None, slice_get, ◌+◌, ◌<◌}
use Rattle.std.specs.List.{concat, flat_map}
use Rattle.std.specs.Fmt.{decimal}
use Rattle.t1_font.specs.Fonts.{FontValue, glyph_name}
use Rattle.t1_rules.specs.Keys.{key_text_of, index_count, key_count}
use Rattle.t1_rules.specs.Book.{code_of, text_of}
use Rattle.t1_report.specs.Faults.{FaultValue}
use Rattle.t1_rules.specs.declared.rule.Rule.TheVariants.{U01}
use Rattle.t1_report.specs.Places.{fault_place}
use Rattle.t1_report.specs.declared.places.FaultPlace.{FaultPlace}
use Rattle.t1_report.specs.declared.places.FaultPlace.TheVariants.{Glyph, Key, Waiver as AtWaiver}
use Rattle.t1_report.specs.Waivers.{Waiver}

-- `font KEY INDEX`.
abbrev pub key_place : ℕ → ℕ → List ℕ
key_place key index = concat (codes "font " ∷ key_text_of key ∷ codes " " ∷ decimal index ∷ [])

-- A Subr that is called from another.
abbrev pub inner_text : ℕ → List ℕ
inner_text number = concat (codes ">" ∷ decimal number ∷ [])

-- The Subrs that are being executed, the outermost first: `5>6`, or `-` where there is none.
abbrev pub path_text : List ℕ → List ℕ
path_text [] = codes "-"
path_text (n ∷ ns) = decimal n ++ flat_map inner_text ns

-- `waiver NAME RULE`.
abbrev pub waiver_text : Option Waiver → List ℕ
waiver_text None = []
waiver_text (Some w) = concat (codes "waiver " ∷ w.0 ∷ codes " " ∷ code_of w.1 ∷ [])

-- `glyph NAME PATH STEP`.
abbrev pub glyph_place : List ℕ → FaultValue → List ℕ
glyph_place name fault =
    concat (codes "glyph " ∷ name ∷ codes " " ∷ [])
    ++ (path_text fault.path ++ concat (codes " " ∷ decimal fault.step ∷ []))

abbrev pub place_text : FontValue → List Waiver → FaultValue → FaultPlace → List ℕ
place_text font waivers fault (Key key index) = key_place key index
place_text font waivers fault (Glyph glyph) = glyph_place (glyph_name font glyph) fault
place_text font waivers fault (AtWaiver number) = waiver_text (slice_get waivers number)

-- ` RULE TEXT`, ended by byte 10.
abbrev pub rule_part : FaultValue → List ℕ
rule_part fault = concat (codes " " ∷ code_of fault.rule ∷ codes " " ∷ text_of fault.rule ∷ codes "\n" ∷ [])

-- `NUMBER: PLACE RULE TEXT`.
abbrev pub line_of : FontValue → List Waiver → FaultValue → List ℕ
line_of font waivers fault =
    concat (decimal fault.number ∷ codes ": " ∷ []) ++ (place_text font waivers fault (fault_place font fault) ++ rule_part fault)

-- The fault is in the font at one of its keys, in one of its glyphs, or it is a waiver that isn't used.
pub record IsInFont (font : FontValue) (waivers : List Waiver) (fault : FaultValue) : Type 0 where
  pub unit : fault.unit ≤ length font.glyphs + 1
  pub key : fault.unit ≡ 0 → fault.step / index_count < key_count
  pub waiver : fault.unit ≡ length font.glyphs + 1 → (fault.rule ≡ U01) × ((1 ≤ fault.step) × (fault.step ≤ length waivers))
