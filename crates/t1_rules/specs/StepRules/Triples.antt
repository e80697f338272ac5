-- Thin stems, and stems beside three of one command: where a step breaks H05 to H07. Type 1 Font Format 1.1, chapter 6:
-- a glyph that uses hstem3 has no hstem, and has the same hstem3 in each of its hint sets. H05 is this project's own.
use Rattle.std.specs.Prelude.{pos, neg_ℤ, ◌*ℤ◌, ◌&&◌, not, int_lt, Bool, true, false, Option, Some, None, is_some, option_map, List}
use Rattle.std.specs.List.{list_any}
use Rattle.std.specs.Ordering.{int_eq}
use Rattle.t1_char.specs.declared.command.Command.TheVariants.{Hstem, Vstem, Hstem3, Vstem3}
use Rattle.t1_char.specs.declared.token.CharToken.{CharToken}
use Rattle.t1_char.specs.declared.token.CharToken.TheVariants.{Command}
use Rattle.t1_char.specs.Numbers.{unit}
use Rattle.t1_char.specs.Since.{last_of}
use Rattle.t1_char.specs.Steps.{StepView}
use Rattle.t1_rules.specs.declared.step_rules.stems.Stem.{Stem}
use Rattle.t1_rules.specs.declared.step_rules.triples.Triple.{Triple}
use Rattle.t1_rules.specs.StepRules.Stems.{has_no_width, is_stem, lower, stem_at, stems_of, upper}

-- A stem has a width, which is below half a unit in absolute value.
abbrev pub is_thin : Stem → Bool
is_thin stem =
    not (has_no_width stem) && int_lt (neg_ℤ (pos unit)) (pos 2 *ℤ stem.width) && int_lt (pos 2 *ℤ stem.width) (pos unit)

abbrev pub sets_thin : StepView → Bool
sets_thin step = is_stem step.token && list_any is_thin (stems_of step)

-- The four commands that set stems.
abbrev pub is_hstem : CharToken → Bool
is_hstem (Command Hstem) = true
is_hstem _ = false

abbrev pub is_hstem3 : CharToken → Bool
is_hstem3 (Command Hstem3) = true
is_hstem3 _ = false

abbrev pub is_vstem : CharToken → Bool
is_vstem (Command Vstem) = true
is_vstem _ = false

abbrev pub is_vstem3 : CharToken → Bool
is_vstem3 (Command Vstem3) = true
is_vstem3 _ = false

-- Such a command came.
abbrev pub came : (CharToken → Bool) → List StepView → Bool
came kind before = is_some (last_of (λ s. kind s.token) before)

-- Behind one of the other kind comes the first one of a kind.
abbrev pub is_first_beside : (CharToken → Bool) → (CharToken → Bool) → List StepView → Bool
is_first_beside kind other before = not (came kind before) && came other before

abbrev pub stands_beside : CharToken → List StepView → Bool
stands_beside (Command Hstem) before = is_first_beside is_hstem is_hstem3 before
stands_beside (Command Hstem3) before = is_first_beside is_hstem3 is_hstem before
stands_beside (Command Vstem) before = is_first_beside is_vstem is_vstem3 before
stands_beside (Command Vstem3) before = is_first_beside is_vstem3 is_vstem before
stands_beside _ before = false

-- The three stems of a step, and of the last such command.
abbrev pub triple_of : StepView → Triple
triple_of step =
    record { one = stem_at step.stack 0; two = stem_at step.stack 2; three = stem_at step.stack 4 }

abbrev pub last_triple : (CharToken → Bool) → List StepView → Option Triple
last_triple kind before = option_map triple_of (last_of (λ s. kind s.token) before)

-- Two stems have the same edges, whichever they begin with.
abbrev pub has_same_edges : Stem → Stem → Bool
has_same_edges one other = int_eq (lower one) (lower other) && int_eq (upper one) (upper other)

-- Three stems have, in their order.
abbrev pub have_same_edges : Triple → Triple → Bool
have_same_edges one other =
    has_same_edges one.one other.one && has_same_edges one.two other.two && has_same_edges one.three other.three

abbrev pub differs_from : Option Triple → Triple → Bool
differs_from None triple = false
differs_from (Some last) triple = not (have_same_edges last triple)

-- Three stems aren't those of the last command of that kind.
abbrev pub changes_by : CharToken → List StepView → Triple → Bool
changes_by (Command Hstem3) before triple = differs_from (last_triple is_hstem3 before) triple
changes_by (Command Vstem3) before triple = differs_from (last_triple is_vstem3 before) triple
changes_by _ before triple = false

abbrev pub sets_beside : List StepView → StepView → Bool
sets_beside before step = stands_beside step.token before

abbrev pub sets_another : List StepView → StepView → Bool
sets_another before step = changes_by step.token before (triple_of step)
