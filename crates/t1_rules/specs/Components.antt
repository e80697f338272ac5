-- The components of accented characters: what seac's rules ask of the glyph that StandardEncoding names
-- for a code. Type 1 Font Format 1.1, chapter 6 (seac, hsbw, sbw).
use Rattle.std.specs.Prelude.{◌≡◌, ℕ, ℤ, if◌then◌else◌, Bool, true, false, Option, Some, None, List, [], ◌∷◌, map, take}
use Rattle.std.specs.List.{list_any, position, range_with_len}
use Rattle.t1_char.specs.declared.edition.Edition.{Edition}
use Rattle.t1_char.specs.Editions.{limit_of}
use Rattle.t1_char.specs.Arguments.{argument}
use Rattle.t1_char.specs.Steps.{StepView, steps_of}
use Rattle.t1_font.specs.Fonts.{FontValue}
use Rattle.t1_font.specs.Keys.{same_name}
use Rattle.t1_rules.specs.declared.sidebearings.Component.{Component}
use Rattle.t1_rules.specs.StandardEncoding.{standard_name}
use Rattle.t1_rules.specs.StepRules.Tokens.{sets_width}
use Rattle.t1_font.specs.Bounds.{code_count}
use Rattle.t1_char.specs.Seacs.{is_seac}

-- A component: whether it is there, the first argument of its first hsbw or sbw, and whether it has a
-- seac of its own.
abbrev pub component : Bool → Option ℤ → Bool → Component
component there sidebearing has_seac =
    record { there = there; sidebearing = sidebearing; has_seac = has_seac }

abbrev pub missing : Component
missing = component false None false

abbrev pub first_sidebearing : List StepView → Option ℤ
first_sidebearing [] = None
first_sidebearing (step ∷ steps) =
    if sets_width step.token then Some (argument step.stack 0) else first_sidebearing steps

abbrev pub is_seac_step : StepView → Bool
is_seac_step step = is_seac step.token

abbrev pub component_in : List StepView → Component
component_in steps = component true (first_sidebearing steps) (list_any is_seac_step steps)

-- The glyph of a name, by its place in CharStrings.
abbrev pub glyph_named : FontValue → List ℕ → Option ℕ
glyph_named font name = position (same_name name) (map (λ glyph. glyph.0) font.glyphs)

-- What the steps up to the limit say of a glyph.
abbrev pub component_of_glyph : ℕ → FontValue → Option ℕ → Component
component_of_glyph limit font None = missing
component_of_glyph limit font (Some glyph) = component_in (take limit (steps_of font glyph))

abbrev pub component_named : ℕ → FontValue → List ℕ → Component
component_named limit font [] = missing
component_named limit font (letter ∷ letters) =
    component_of_glyph limit font (glyph_named font (letter ∷ letters))

abbrev pub component_at : ℕ → FontValue → ℕ → Component
component_at limit font code = component_named limit font (standard_name code)

-- The components of all codes.
unfoldable pub components_of : ℕ → FontValue → List Component
components_of limit font = map (component_at limit font) (range_with_len 0 code_count)

-- The components of all codes of a font, and the edition by whose limit they were looked at.
pub record ComponentsView : Type 0 where
  pub edition : Edition
  pub components : List Component

-- They are those of this font.
abbrev pub AreOf : FontValue → ComponentsView → Type 0
AreOf font view = view.components ≡ components_of (limit_of view.edition) font
