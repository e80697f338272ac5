-- What the watcher of stems keeps, one step further.
use Rattle.std.proofs.Common.{◌≡◌, ◌&&◌, ◌||◌, not, if◌then◌else◌, Bool, true, false, List, [], ◌∷◌, ◌++◌, append-nil, take, flat_map, refl, sym, ap, ◌∙◌}
use Rattle.std.proofs.Math.Bool.{and-true}
use Rattle.std.proofs.lemmas.Grind.{flat_map-append}
use Rattle.t1_char.specs.declared.command.Command.{Command as Commands}
use Rattle.t1_char.specs.declared.edition.Edition.{Edition}
use Rattle.t1_char.specs.Arguments.{is_flex_start, is_flex_end, is_hint_replacement}
use Rattle.t1_char.specs.Steps.{StepView}
use Rattle.t1_char.proofs.LookingBack.{after_last_goes_on, since_goes_on}
use Rattle.t1_rules.specs.declared.step_rules.stems.StemWatcher.{StemWatcher}
use Rattle.t1_rules.specs.StepRules.Paths.{drawing, flex_start, flex_end}
use Rattle.t1_rules.specs.StepRules.Stems.{hint_set, lies_across, popping, replacing_step, stands_upright, stems_in, stems_of}
use Rattle.t1_rules.specs.StepRules.Tokens.{is_command, is_line, is_pop}
use Rattle.t1_rules.specs.Private.Standing.{StemsStandFor}
use Rattle.t1_rules.specs.Private.Stems.{IsQuietForStems, kept_after}
use Rattle.t1_rules.proofs.Lemmas.Before.{take_more, was_last, was_before}
use Rattle.t1_font.specs.Fonts.{after_last}

-- The hint set of a direction.
pub hint_set_goes_on : (direction : Commands → Bool) (before : List StepView) (t : StepView) → hint_set direction (before ++ t ∷ []) ≡ kept_after
    direction (hint_set direction before) t
hint_set_goes_on direction before t =
    ap (λ steps. take 96 (flat_map (stems_in direction) steps)) (after_last_goes_on is_hint_replacement before t)
    ∙ go (is_hint_replacement t)
  where
    kept : List StepView
    kept = after_last is_hint_replacement before

    more : (b : Bool) → take 96 (flat_map (stems_in direction) kept ++ ((if b then stems_of t else []) ++ []))
        ≡ (if b then take 96 (take 96 (flat_map (stems_in direction) kept) ++ stems_of t) else take 96 (flat_map (stems_in direction) kept))
    more true = rw (append-nil (stems_of t)) (sym (take_more 96 (flat_map (stems_in direction) kept) (stems_of t)))
    more false = ap (λ stems. take 96 stems) (append-nil (flat_map (stems_in direction) kept))

    go : (b : Bool) → take 96 (flat_map (stems_in direction) (if b then [] else kept ++ t ∷ []))
        ≡ (if b then [] else (if is_command direction t.token then take 96 (take 96 (flat_map (stems_in direction) kept) ++ stems_of t) else take 96
        (flat_map (stems_in direction) kept)))
    go true = refl
    go false = ap (λ stems. take 96 stems) (flat_map-append (stems_in direction) kept (t ∷ [])) ∙ more (is_command direction t.token)

-- What is kept after a step, by what was kept before it.
pub one_more_stem : (edition : Edition) (old new : StemWatcher) (before : List StepView) (t : StepView) → StemsStandFor edition old before
    → new.edition ≡ old.edition
    → new.across.items ≡ kept_after lies_across old.across.items t
    → new.upright.items ≡ kept_after stands_upright old.upright.items t
    → new.in_flex ≡ (is_flex_start t || (old.in_flex && not (is_flex_end t)))
    → new.drawn ≡ ((is_line t.token || (is_flex_end t && old.in_flex)) || (old.drawn && not (is_hint_replacement t)))
    → new.replaced ≡ is_hint_replacement t
    → new.popped ≡ (is_pop t.token && old.replaced)
    → StemsStandFor edition new (before ++ t ∷ [])
one_more_stem edition old new before t st same across upright in_flex drawn replaced popped = record {
  edition_is = same ∙ st.edition_is;
  across = across ∙ rw (st.across) (sym (hint_set_goes_on lies_across before t));
  upright = upright ∙ rw (st.upright) (sym (hint_set_goes_on stands_upright before t));
  in_flex = in_flex ∙ rw (st.in_flex, since_goes_on flex_start flex_end before t);
  drawn = drawn ∙ rw (st.drawn, st.in_flex, since_goes_on drawing replacing_step before t);
  replaced = replaced ∙ sym (was_last is_hint_replacement before t);
  popped = popped ∙ rw (st.replaced, was_before 0 is_hint_replacement before t, was_last popping before t) (turned (is_pop t.token) _);
}
  where
    turned : (a b : Bool) → (a && b) ≡ (b && a)
    turned true true = refl
    turned true false = refl
    turned false true = refl
    turned false false = refl

-- A quiet step leaves the hint sets and what was drawn as they are.
pub stays_for_stems : (edition : Edition) (old new : StemWatcher) (before : List StepView) (t : StepView) → IsQuietForStems t.token
    → StemsStandFor edition old before
    → new.edition ≡ old.edition → new.across ≡ old.across → new.upright ≡ old.upright → new.in_flex ≡ old.in_flex → new.drawn ≡ old.drawn
    → new.replaced ≡ is_hint_replacement t → new.popped ≡ (is_pop t.token && old.replaced)
    → StemsStandFor edition new (before ++ t ∷ [])
stays_for_stems edition old new before t quiet st same across upright in_flex drawn replaced popped =
    one_more_stem edition old new before t st same
    (ap (λ stems. stems.items) across ∙ rw (quiet.othersubr, neither.0) refl)
    (ap (λ stems. stems.items) upright ∙ rw (quiet.othersubr, neither.1) refl)
    (in_flex ∙ rw (quiet.othersubr) (sym (and-true old.in_flex)))
    (drawn ∙ rw (quiet.line, quiet.othersubr) (sym (and-true old.drawn)))
    replaced popped
  where
    no_stem : (a b : Bool) → (a || b) ≡ false → (a ≡ false) × (b ≡ false)
    no_stem false false e = (refl, refl)
    no_stem false true e = let no : true ≡ false = e in cc
    no_stem true b e = let no : true ≡ false = e in cc

    neither : (is_command lies_across t.token ≡ false) × (is_command stands_upright t.token ≡ false)
    neither = no_stem _ _ (quiet.stem)
