-- What the watcher of accented characters keeps, one step further.
use Rattle.std.proofs.Common.{◌≡◌, ◌&&◌, ◌||◌, not, List, [], ◌∷◌, ◌++◌, sym, ◌∙◌}
use Rattle.std.proofs.Math.Bool.{and-true, or-false}
use Rattle.t1_char.specs.Arguments.{is_flex_start, is_flex_end}
use Rattle.t1_char.specs.Steps.{StepView}
use Rattle.t1_char.proofs.LookingBack.{any_goes_on, since_goes_on}
use Rattle.t1_rules.specs.declared.step_rules.seac.SeacWatcher.{SeacWatcher}
use Rattle.t1_rules.specs.StepRules.Paths.{flex_start, flex_end}
use Rattle.t1_rules.specs.StepRules.Seac.{makes_outline}
use Rattle.t1_rules.specs.StepRules.Stems.{is_stem}
use Rattle.t1_rules.specs.StepRules.Tokens.{closes, is_line, is_move}
use Rattle.t1_rules.specs.Private.Standing.{SeacStandsFor}
use Rattle.t1_rules.proofs.Lemmas.Tokens.{IsNoCommand}

-- What is kept after a step, by what was kept before it.
pub one_more_outline : (old new : SeacWatcher) (before : List StepView) (t : StepView) → SeacStandsFor old before
    → new.in_flex ≡ (is_flex_start t || (old.in_flex && not (is_flex_end t)))
    → new.outlined ≡ (old.outlined || (is_move t.token || ((is_line t.token || (is_flex_end t && old.in_flex)) || (is_stem t.token || closes t.token))))
    → SeacStandsFor new (before ++ t ∷ [])
one_more_outline old new before t st in_flex outlined = record {
  in_flex = in_flex ∙ rw (st.in_flex, since_goes_on flex_start flex_end before t);
  outlined = outlined ∙ rw (st.outlined, st.in_flex) (sym (any_goes_on makes_outline before t));
}

-- What is no command leaves all as it was.
pub outline_stays : (w : SeacWatcher) (before : List StepView) (t : StepView) → IsNoCommand t.token → SeacStandsFor w before
    → SeacStandsFor w (before ++ t ∷ [])
outline_stays w before t quiet st =
    one_more_outline w w before t st
    (rw (quiet.othersubr) (sym (and-true w.in_flex)))
    (rw (quiet.moves, quiet.draws, quiet.othersubr, quiet.stem, quiet.closes) (sym (or-false w.outlined)))
