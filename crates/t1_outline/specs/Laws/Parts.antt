-- The parts of the picture of a glyph. Type 1 Font Format 1.1, chapter 6 (seac).
use Rattle.std.specs.Prelude.{◌≡◌, ℕ, ◌+ℤ◌, ◌==◌, true, false, Option, Some, List, [], ◌∷◌, ◌++◌, length}
use Rattle.std.specs.List.{list_any}
use Rattle.t1_char.specs.Seacs.{step_is_seac}
use Rattle.t1_char.specs.Steps.{StepView}
use Rattle.t1_font.specs.Fonts.{FontValue}
use Rattle.t1_outline.specs.declared.composition.Seac.{Seac}
use Rattle.t1_outline.specs.Parts.{accent_origin, metrics_of, part, parts_of, seac_in, sidebearing_by}
use Rattle.t1_rules.specs.declared.step_rules.flex.Point.{Point}
use Rattle.t1_rules.specs.Components.{glyph_named}
use Rattle.t1_rules.specs.StandardEncoding.{standard_name}
use Rattle.t1_rules.specs.StepRules.Flex.{origin}
use Rattle.t1_rules.specs.StepRules.Seac.{accent_code, base_code}

-- The picture of a glyph without seac is made of that glyph alone.
abbrev pub GlyphsWithoutSeacAreOnePart : Type 0
GlyphsWithoutSeacAreOnePart =
    (font : FontValue) (glyph : ℕ) (steps : List StepView) → list_any step_is_seac steps ≡ false →
    parts_of font glyph steps ≡ part glyph origin ∷ []

-- A code has a name in StandardEncoding, and this glyph of the font has that name.
pub record NamesGlyph (font : FontValue) (code : Option ℕ) (glyph : ℕ) : Type 0 where
  pub number : ℕ
  pub is_code : code ≡ Some number
  pub has_letters : (length (standard_name number) == 0) ≡ false
  pub is_named : glyph_named font (standard_name number) ≡ Some glyph

-- After a seac whose codes name two glyphs it is made of these too: the base at the origin of the glyph, and the accent
-- by the left sidebearing point and what the seac says.
abbrev pub SeacsDrawBaseAndAccent : Type 0
SeacsDrawBaseAndAccent =
    (font : FontValue) (glyph base accent : ℕ) (before : List StepView) (step : StepView) → step_is_seac step ≡ true →
    NamesGlyph font (base_code step) base → NamesGlyph font (accent_code step) accent →
    parts_of font glyph (before ++ step ∷ [])
    ≡ part glyph origin ∷ part base origin
    ∷ part accent (accent_origin (sidebearing_by (metrics_of (before ++ step ∷ []))) (seac_in step)) ∷ []

-- Where the accent's sidebearing is ASB, its left sidebearing point is ADX to the right of that of the glyph.
abbrev pub AccentsStandByTheirSidebearings : Type 0
AccentsStandByTheirSidebearings =
    (start : Point) (seac : Seac) → ((accent_origin start seac).x +ℤ seac.sidebearing) ≡ (start.x +ℤ seac.x)
