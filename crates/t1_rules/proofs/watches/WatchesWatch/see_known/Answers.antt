use Rattle.std.proofs.Common.{false, ◌++◌, refl, sym, ◌∙◌}
use Rattle.std.proofs.Math.Bool.{or-false}
use Rattle.t1_char.specs.StepValues.{step_view}
use Rattle.t1_rules.specs.Mask.{has}
use Rattle.t1_rules.specs.StepRules.{argument_rules, call_rules, flex_rules, othersubr_rules, path_rules, seac_rules, stem_rules, step_rules, triple_rules, counter_rules}
use Rattle.t1_rules.specs.Private.Standing.{WatchesStandFor}
use Rattle.t1_rules.proofs.Lemmas.Counters.{counters_stay_off}
use Rattle.t1_rules.proofs.Lemmas.Later.{no_later_rule}
use Rattle.t1_rules.proofs.Lemmas.Triples.{triples_stay_off}
use Rattle.t1_rules.proofs.Lemmas.Watches.{is_off, joined, last_joined}
use Rattle.t1_rules.proofs.watches.WatchesWatch.see_known.Goals as goal

pub see_known-paths-requires-clause-steps : goal.see_known-paths-requires-clause-steps
unfolding WatchesStandFor
see_known-paths-requires-clause-steps c = (c.requires.steps.0, (c.requires.steps.1.0, (c.requires.steps.1.1.0.0, c.requires.steps.1.1.1)))

pub see_known-stems-requires-clause-steps : goal.see_known-stems-requires-clause-steps
unfolding WatchesStandFor
see_known-stems-requires-clause-steps c = (c.requires.steps.0, (c.requires.steps.1.0, (c.requires.steps.1.1.0.1.0, c.requires.steps.1.1.1)))

pub see_known-flex-requires-clause-steps : goal.see_known-flex-requires-clause-steps
unfolding WatchesStandFor
see_known-flex-requires-clause-steps c = (c.requires.steps.0, (c.requires.steps.1.0, (c.requires.steps.1.1.0.1.1.0, c.requires.steps.1.1.1)))

pub see_known-seac-requires-clause-steps : goal.see_known-seac-requires-clause-steps
unfolding WatchesStandFor
see_known-seac-requires-clause-steps c = (c.requires.steps.0, (c.requires.steps.1.0, (c.requires.steps.1.1.0.1.1.1.0, c.requires.steps.1.1.1)))

pub see_known-triples-requires-clause-steps : goal.see_known-triples-requires-clause-steps
unfolding WatchesStandFor
see_known-triples-requires-clause-steps c = (c.requires.steps.0, (c.requires.steps.1.0, (c.requires.steps.1.1.0.1.1.1.1.0, c.requires.steps.1.1.1)))

pub see_known-counters-requires-clause-steps : goal.see_known-counters-requires-clause-steps
unfolding WatchesStandFor
see_known-counters-requires-clause-steps c = (c.requires.steps.0, (c.requires.steps.1.0, (c.requires.steps.1.1.0.1.1.1.1.1, c.requires.steps.1.1.1)))

pub returns-then-not-is_on-clause-stands : goal.returns-then-not-is_on-clause-stands
unfolding WatchesStandFor
returns-then-not-is_on-clause-stands c = λ edition before st short.
    let t = step_view c.args.step.now in
    let none = is_off edition c.args.self.now before st (sym c.is_on.ensures ∙ c.if-not-is_on.true) in (
      c.see_known-paths.ensures.stands edition before st.0 short,
      (
        c.see_known-stems.ensures.stands edition before st.1.0 short,
        (
          c.see_known-flex.ensures.stands edition before st.1.1.0 short,
          (
            c.see_known-seac.ensures.stands edition before st.1.1.1.0 short,
            (
              triples_stay_off edition c.args.self.now.triples before t none st.1.1.1.1.0,
              counters_stay_off edition c.args.self.now.counters before t none st.1.1.1.1.1,
            ),
          ),
        ),
      ),
    )

pub returns-then-not-is_on-clause-answer : goal.returns-then-not-is_on-clause-answer
unfolding WatchesStandFor step_rules
returns-then-not-is_on-clause-answer c = λ edition before st short n.
    let t = step_view c.args.step.now in
    let none = is_off edition c.args.self.now before st (sym c.is_on.ensures ∙ c.if-not-is_on.true) in
    joined argument_rules _ n before t _ _ _ (c.join-early.ensures n) (c.see_known-arguments.ensures.answer edition before _ short n)
    (joined call_rules _ n before t _ _ _ (c.join-4.ensures n) (c.see_known-calls.ensures.answer edition before _ short n)
    (joined path_rules _ n before t _ _ _ (c.join-3.ensures n) (c.see_known-paths.ensures.answer edition before st.0 short n)
    (joined (stem_rules edition) _ n before t _ _ _ (c.join-2.ensures n) (c.see_known-stems.ensures.answer edition before st.1.0 short n)
    (joined flex_rules _ n before t _ _ _ (c.join-glyph.ensures n) (c.see_known-flex.ensures.answer edition before st.1.1.0 short n)
    (joined othersubr_rules _ n before t _ _ _ (c.join.ensures n) (c.see_known-othersubrs.ensures.answer edition before _ short n)
    (joined seac_rules (triple_rules edition ++ counter_rules edition) n before t _ _ false (sym (or-false _))
    (c.see_known-seac.ensures.answer edition before st.1.1.1.0 short n)
    (sym (no_later_rule edition before t n none))))))))

pub returns-clause-stands : goal.returns-clause-stands
unfolding WatchesStandFor
returns-clause-stands c = λ edition before st short. (
  c.see_known-paths.ensures.stands edition before st.0 short,
  (
    c.see_known-stems.ensures.stands edition before st.1.0 short,
    (
      c.see_known-flex.ensures.stands edition before st.1.1.0 short,
      (
        c.see_known-seac.ensures.stands edition before st.1.1.1.0 short,
        (c.see_known-triples.ensures.stands edition before st.1.1.1.1.0 short, c.see_known-counters.ensures.stands edition before st.1.1.1.1.1 short),
      ),
    ),
  ),
)

pub returns-clause-answer : goal.returns-clause-answer
unfolding WatchesStandFor step_rules
returns-clause-answer c = λ edition before st short n.
    let t = step_view c.args.step.now in
    rw (
      c.join-6.ensures n,
      c.join-early.ensures n,
      c.join-4.ensures n,
      c.join-3.ensures n,
      c.join-2.ensures n,
      c.join-glyph.ensures n,
      c.join.ensures n,
    )
    (last_joined (has c.see_known-arguments.result n) (has c.see_known-calls.result n) (has c.see_known-paths.result n)
    (has c.see_known-stems.result n) (has c.see_known-flex.result n) (has c.see_known-othersubrs.result n) (has c.see_known-seac.result n) _
    ∙ joined argument_rules _ n before t _ _ _ refl (c.see_known-arguments.ensures.answer edition before _ short n)
    (joined call_rules _ n before t _ _ _ refl (c.see_known-calls.ensures.answer edition before _ short n)
    (joined path_rules _ n before t _ _ _ refl (c.see_known-paths.ensures.answer edition before st.0 short n)
    (joined (stem_rules edition) _ n before t _ _ _ refl (c.see_known-stems.ensures.answer edition before st.1.0 short n)
    (joined flex_rules _ n before t _ _ _ refl (c.see_known-flex.ensures.answer edition before st.1.1.0 short n)
    (joined othersubr_rules _ n before t _ _ _ refl (c.see_known-othersubrs.ensures.answer edition before _ short n)
    (joined seac_rules _ n before t _ _ _ refl (c.see_known-seac.ensures.answer edition before st.1.1.1.0 short n)
    (joined (triple_rules edition) (counter_rules edition) n before t _ _ _ (c.join-5.ensures n)
    (c.see_known-triples.ensures.answer edition before st.1.1.1.1.0 short n)
    (c.see_known-counters.ensures.answer edition before st.1.1.1.1.1 short n)))))))))
