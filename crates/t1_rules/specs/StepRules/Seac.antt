-- Accented characters: where a step breaks K01, K02 and K06, and, given what components are, K03 to K05 and
-- K07. Type 1 Font Format 1.1, chapter 6 (seac).
use Rattle.std.specs.Prelude.{ℕ, ℤ, ◌==◌, ◌&&◌, ◌||◌, not, nat_lt, if◌then◌else◌, is_none, Bool, false, Option, Some, None, List, length, slice_index_or}
use Rattle.std.specs.Ordering.{int_eq}
use Rattle.t1_char.specs.Arguments.{argument}
use Rattle.t1_char.specs.Numbers.{natural}
use Rattle.t1_char.specs.Since.{any_so_far}
use Rattle.t1_char.specs.Steps.{StepView}
use Rattle.t1_rules.specs.declared.sidebearings.Component.{Component}
use Rattle.t1_rules.specs.Components.{missing}
use Rattle.t1_rules.specs.StandardEncoding.{standard_name}
use Rattle.t1_rules.specs.StepRules.Paths.{drawing}
use Rattle.t1_rules.specs.StepRules.Stems.{is_stem}
use Rattle.t1_rules.specs.StepRules.Tokens.{closes, is_move}
use Rattle.t1_font.specs.Bounds.{code_count}
use Rattle.t1_char.specs.Seacs.{is_seac}

-- A number as a code: whole, from 0 to 255.
abbrev pub code_among : Option ℕ → Option ℕ
code_among None = None
code_among (Some n) = if nat_lt n code_count then Some n else None

-- An argument of seac as a code.
abbrev pub seac_code : ℤ → Option ℕ
seac_code z = code_among (natural z)

-- The arguments of seac are asb, adx, ady, and the codes of the base and of the accent.
abbrev pub accent_sidebearing : StepView → ℤ
accent_sidebearing step = argument step.stack 0

abbrev pub base_code : StepView → Option ℕ
base_code step = seac_code (argument step.stack 3)

abbrev pub accent_code : StepView → Option ℕ
accent_code step = seac_code (argument step.stack 4)

abbrev pub has_no_code : StepView → Bool
has_no_code step = is_seac step.token && (is_none (base_code step) || is_none (accent_code step))

-- A code without a name in StandardEncoding.
abbrev pub is_unnamed : Option ℕ → Bool
is_unnamed None = false
is_unnamed (Some code) = length (standard_name code) == 0

abbrev pub has_unnamed_code : StepView → Bool
has_unnamed_code step = is_seac step.token && (is_unnamed (base_code step) || is_unnamed (accent_code step))

-- What makes an outline: a move, a drawing, a stem, closepath.
abbrev pub makes_outline : List StepView → StepView → Bool
makes_outline before step =
    is_move step.token || (drawing before step || (is_stem step.token || closes step.token))

abbrev pub stands_beside_outline : List StepView → StepView → Bool
stands_beside_outline before step = is_seac step.token && any_so_far makes_outline before

-- The component of a code, where the components of all codes are these.
abbrev pub component_of_code : List Component → Option ℕ → Component
component_of_code components None = missing
component_of_code components (Some code) = slice_index_or components code missing

abbrev pub base : List Component → StepView → Component
base components step = component_of_code components (base_code step)

abbrev pub accent : List Component → StepView → Component
accent components step = component_of_code components (accent_code step)

-- The code has a name, and no glyph has that name.
abbrev pub is_named : Option ℕ → Bool
is_named None = false
is_named (Some code) = not (length (standard_name code) == 0)

abbrev pub is_lacking : Option ℕ → Component → Bool
is_lacking code component = is_named code && not component.there

abbrev pub lacks_component : List Component → StepView → Bool
lacks_component components step =
    is_seac step.token
    && (is_lacking (base_code step) (base components step) || is_lacking (accent_code step) (accent components step))

abbrev pub nests : List Component → StepView → Bool
nests components step =
    is_seac step.token && ((base components step).has_seac || (accent components step).has_seac)

-- The accent's sidebearing is another than asb.
abbrev pub is_another : Option ℤ → ℤ → Bool
is_another None z = false
is_another (Some sidebearing) z = not (int_eq sidebearing z)

abbrev pub differs_in_sidebearing : List Component → StepView → Bool
differs_in_sidebearing components step =
    is_seac step.token && is_another (accent components step).sidebearing (accent_sidebearing step)

abbrev pub is_without_sidebearing : Component → Bool
is_without_sidebearing component = component.there && is_none component.sidebearing

abbrev pub lacks_sidebearing : List Component → StepView → Bool
lacks_sidebearing components step =
    is_seac step.token
    && (is_without_sidebearing (base components step) || is_without_sidebearing (accent components step))
