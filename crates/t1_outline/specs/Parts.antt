-- The parts of a glyph's picture: the glyph itself, and base and accent of its seac, each with where its origin is.
-- Type 1 Font Format 1.1, chapter 6 (seac, hsbw, sbw). That a component that isn't there draws nothing, and that ASB
-- and the sidebearing have a say in where the accent is, is our choice where the standard is silent.
use Rattle.std.specs.Prelude.{◌≡◌, ℕ, ◌+ℤ◌, ◌-ℤ◌, ◌<◌, if◌then◌else◌, Bool, Option, Some, None, List, [], ◌∷◌, ◌++◌, length}
use Rattle.std.specs.List.{find}
use Rattle.std.specs.Option.{option_map}
use Rattle.t1_char.specs.Arguments.{argument}
use Rattle.t1_char.specs.Seacs.{step_is_seac}
use Rattle.t1_char.specs.Since.{last_of}
use Rattle.t1_char.specs.Steps.{StepView}
use Rattle.t1_font.specs.Fonts.{FontValue}
use Rattle.t1_outline.specs.declared.composition.Composition.{Composition}
use Rattle.t1_outline.specs.declared.composition.Metrics.{Metrics}
use Rattle.t1_outline.specs.declared.composition.Seac.{Seac}
use Rattle.t1_outline.specs.declared.parts.SeacPart.{SeacPart}
use Rattle.t1_outline.specs.declared.parts.SeacPart.TheVariants.{NoCode, NoGlyph, NoName, There}
use Rattle.t1_outline.specs.declared.parts.SeacParts.{SeacParts}
use Rattle.t1_outline.specs.declared.parts.Part.{Part}
use Rattle.t1_rules.specs.declared.step_rules.flex.Point.{Point}
use Rattle.t1_rules.specs.Components.{glyph_named}
use Rattle.t1_rules.specs.StandardEncoding.{standard_name}
use Rattle.t1_rules.specs.StepRules.Flex.{at, origin, point_set}
use Rattle.t1_rules.specs.StepRules.Seac.{accent_code, accent_sidebearing, base_code}
use Rattle.t1_rules.specs.StepRules.Tokens.{is_hsbw, sets_width}

-- What hsbw and sbw set: the left sidebearing point, which is the current point after them, and the width. The
-- arguments are SBX WX, or SBX SBY WX WY.
abbrev pub metrics_in : StepView → Metrics
metrics_in step =
    record {
      x = (point_set step).x;
      y = (point_set step).y;
      width = argument step.stack (if is_hsbw step.token then 1 else 2);
    }

abbrev pub sets_metrics : StepView → Bool
sets_metrics step = sets_width step.token

-- A glyph's own are those of its first hsbw or sbw.
abbrev pub metrics_of : List StepView → Option Metrics
metrics_of steps = option_map metrics_in (find sets_metrics steps)

-- The left sidebearing point; the origin where none is set.
abbrev pub sidebearing_by : Option Metrics → Point
sidebearing_by None = origin
sidebearing_by (Some metrics) = at metrics.x metrics.y

-- The arguments of seac: ASB ADX ADY, and the codes of base and accent.
abbrev pub seac_in : StepView → Seac
seac_in step =
    record {
      base = base_code step;
      accent = accent_code step;
      sidebearing = accent_sidebearing step;
      x = argument step.stack 1;
      y = argument step.stack 2;
    }

-- A glyph's own is the last one, since seac ends it.
abbrev pub seac_of : List StepView → Option Seac
seac_of steps = option_map seac_in (last_of step_is_seac steps)

-- What steps say of the parts of their glyph.
abbrev pub composition_of : List StepView → Composition
composition_of steps = record { metrics = metrics_of steps; seac = seac_of steps }

abbrev pub part : ℕ → Point → Part
part glyph point = record { glyph = glyph; origin = point }

-- A code names the glyph that has the code's name in StandardEncoding. It names none where it is no code (K01), has no
-- name (K02), or no glyph has that name (K03).
abbrev pub there_or_not : ℕ → Point → Option ℕ → SeacPart
there_or_not code point None = NoGlyph code
there_or_not code point (Some glyph) = There (part glyph point)

abbrev pub seac_part_named : FontValue → ℕ → Point → List ℕ → SeacPart
seac_part_named font code point [] = NoName code
seac_part_named font code point (letter ∷ letters) = there_or_not code point (glyph_named font (letter ∷ letters))

-- What a code names, with its origin at a point.
abbrev pub seac_part_at : FontValue → Option ℕ → Point → SeacPart
seac_part_at font None point = NoCode
seac_part_at font (Some code) point = seac_part_named font code point (standard_name code)

-- The accent's origin is ADX less ASB to the right of the left sidebearing point, and at the height ADY.
abbrev pub accent_origin : Point → Seac → Point
accent_origin start seac = at (start.x +ℤ (seac.x -ℤ seac.sidebearing)) seac.y

-- The base is at the origin of the glyph.
abbrev pub seac_parts_by : FontValue → Point → Option Seac → Option SeacParts
seac_parts_by font start None = None
seac_parts_by font start (Some seac) =
    Some (record {
      base = seac_part_at font seac.base origin;
      accent = seac_part_at font seac.accent (accent_origin start seac);
    })

-- Base and accent of a glyph; none without seac.
abbrev pub seac_parts_in : FontValue → Composition → Option SeacParts
seac_parts_in font composition = seac_parts_by font (sidebearing_by composition.metrics) composition.seac

-- A component that isn't there is no part of the picture.
abbrev pub part_of : SeacPart → List Part
part_of (There p) = p ∷ []
part_of _ = []

abbrev pub parts_of_both : Option SeacParts → List Part
parts_of_both None = []
parts_of_both (Some components) = part_of components.base ++ part_of components.accent

-- The parts of a glyph's picture: the glyph itself, its base and its accent. Each is drawn from its own steps; so a
-- component has no say in what else is drawn, and its own seac draws nothing.
abbrev pub parts_of : FontValue → ℕ → List StepView → List Part
parts_of font glyph steps = part glyph origin ∷ parts_of_both (seac_parts_in font (composition_of steps))

-- A component that is there is a glyph of the font.
abbrev pub IsIn : FontValue → SeacPart → Type 0
IsIn font component = (p : Part) → component ≡ There p → p.glyph < length font.glyphs
