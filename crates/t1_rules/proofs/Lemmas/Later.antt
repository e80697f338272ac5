-- Steps that break no rule after number 70, and what the watchers of these rules keep at them.
use Rattle.std.proofs.Common.{◌≡◌, ℕ, ◌&&◌, true, false, List, [], ◌∷◌, ◌++◌, refl, sym, ◌∙◌}
use Rattle.std.proofs.lemmas.List.Folds.{list_any-append}
use Rattle.t1_char.specs.declared.edition.Edition.{Edition}
use Rattle.t1_char.specs.Arguments.{is_callothersubr}
use Rattle.t1_char.specs.Editions.{has_later_rules}
use Rattle.t1_char.specs.Steps.{StepView}
use Rattle.t1_rules.specs.declared.watches.Watches.{Watches}
use Rattle.t1_rules.specs.StepRules.Paths.{clearing_step}
use Rattle.t1_char.specs.Since.{any_so_far}
use Rattle.t1_rules.specs.Private.Standing.{CountersStandFor, TriplesStandFor}
use Rattle.t1_rules.specs.StepRules.{breaks, counter_rules, triple_rules}
use Rattle.t1_rules.specs.StepRules.Counters.{goes_on_counting, last_told_is}
use Rattle.t1_rules.specs.StepRules.Stems.{is_stem}
use Rattle.t1_rules.specs.StepRules.Tokens.{clears, sets_width}
use Rattle.t1_rules.proofs.Lemmas.Counters.{counters_at_command, no_counter_rule, none_at_no_call, stand}
use Rattle.t1_rules.proofs.Lemmas.Triples.{no_triple_rule, none_at_no_stem, stays_for_triples}

-- The step sets no stem and is no call, and counter control doesn't go on before it.
pub none_later : (edition : Edition) (before : List StepView) (t : StepView) → is_stem t.token ≡ false → is_callothersubr t.token ≡ false
    → (has_later_rules edition && (clears t.token && last_told_is goes_on_counting before)) ≡ false → (n : ℕ)
    → breaks (triple_rules edition ++ counter_rules edition) n before t ≡ false
none_later edition before t none no_call ended n =
    list_any-append _ (triple_rules edition) (counter_rules edition)
    ∙ rw (none_at_no_stem edition before t none n) (none_at_no_call edition before t no_call ended n)

-- Where an edition hasn't these rules, none is broken.
pub no_later_rule : (edition : Edition) (before : List StepView) (t : StepView) (n : ℕ) → has_later_rules edition ≡ false
    → breaks (triple_rules edition ++ counter_rules edition) n before t ≡ false
no_later_rule edition before t n none =
    list_any-append _ (triple_rules edition) (counter_rules edition)
    ∙ rw (no_triple_rule edition before t n none) (no_counter_rule edition before t n none)

-- In the midst of a path a command that empties the stack and sets neither a stem nor the width changes nothing.
pub stays_later : (edition : Edition) (w : Watches) (before : List StepView) (t : StepView) → is_stem t.token ≡ false → is_callothersubr t.token ≡ false
    → clears t.token ≡ true → sets_width t.token ≡ false → any_so_far clearing_step before ≡ true → w.counters.opened ≡ false → w.counters.going_on ≡ false
    → TriplesStandFor edition w.triples before × CountersStandFor edition w.counters before
    → TriplesStandFor edition w.triples (before ++ t ∷ []) × CountersStandFor edition w.counters (before ++ t ∷ [])
stays_later edition w before t none no_call empties no_width begun opened going_on st = (
  stays_for_triples edition w.triples before t none st.0,
  stand edition w.counters (before ++ t ∷ []) st.1.is_on
      (λ has. counters_at_command w.counters w.counters before t no_call empties (st.1.kept has) ((st.1.kept has).begun ∙ begun) (opened ∙ sym no_width) going_on refl)
      (λ none. going_on),
)
