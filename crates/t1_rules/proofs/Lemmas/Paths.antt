-- What the watcher of widths and paths keeps, one step further.
use Rattle.std.proofs.Common.{◌≡◌, ℕ, ◌&&◌, ◌||◌, not, false, List, [], ◌∷◌, ◌++◌, refl, sym, ◌∙◌}
use Rattle.std.proofs.Math.Bool.{and-true, or-false}
use Rattle.t1_char.specs.Arguments.{is_flex_start, is_flex_end}
use Rattle.t1_char.specs.Steps.{StepView}
use Rattle.t1_char.proofs.LookingBack.{any_goes_on, since_goes_on}
use Rattle.t1_rules.specs.declared.step_rules.paths.PathWatcher.{PathWatcher}
use Rattle.t1_rules.specs.StepRules.{breaks, path_rules}
use Rattle.t1_rules.specs.StepRules.Paths.{clearing_step, flex_start, flex_end, closing_step, outer_move, drawing}
use Rattle.t1_rules.specs.StepRules.Tokens.{clears, closes, is_line, is_move}
use Rattle.t1_rules.specs.Private.Standing.{PathsStandFor}
use Rattle.t1_rules.specs.Private.Quiet.{IsQuietForPaths}

-- What is kept after a step, by what was kept before it.
pub one_more : (old new : PathWatcher) (before : List StepView) (t : StepView) → PathsStandFor old before
    → new.begun ≡ (old.begun || clears t.token)
    → new.in_flex ≡ (is_flex_start t || (old.in_flex && not (is_flex_end t)))
    → new.moved ≡ ((is_move t.token && not old.in_flex) || (old.moved && not (closes t.token)))
    → new.drawn ≡ ((is_line t.token || (is_flex_end t && old.in_flex)) || (old.drawn && not (closes t.token)))
    → PathsStandFor new (before ++ t ∷ [])
one_more old new before t st begun in_flex moved drawn = record {
  begun = begun ∙ rw (st.begun, any_goes_on clearing_step before t);
  in_flex = in_flex ∙ rw (st.in_flex, since_goes_on flex_start flex_end before t);
  moved = moved ∙ rw (st.moved, st.in_flex, since_goes_on outer_move closing_step before t);
  drawn = drawn ∙ rw (st.drawn, st.in_flex, since_goes_on drawing closing_step before t);
}

pub stays : (w : PathWatcher) (before : List StepView) (t : StepView) → IsQuietForPaths t.token → PathsStandFor w before → PathsStandFor w (before ++ t ∷ [])
stays w before t quiet st =
    one_more w w before t st
    (rw quiet.clears (sym (or-false w.begun)))
    (rw quiet.othersubr (sym (and-true w.in_flex)))
    (rw (quiet.moves, quiet.closes) (sym (and-true w.moved)))
    (rw (quiet.draws, quiet.othersubr, quiet.closes) (sym (and-true w.drawn)))

pub no_fault : (n : ℕ) (before : List StepView) (t : StepView) → IsQuietForPaths t.token → breaks path_rules n before t ≡ false
unfolding path_rules
no_fault n before t quiet = rw (quiet.clears, quiet.sets_width, quiet.moves, quiet.draws, quiet.closes, quiet.finishes, quiet.ends, quiet.othersubr) refl
