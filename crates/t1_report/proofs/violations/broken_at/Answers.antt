use Rattle.std.proofs.Common.{◌≡◌, ◌<◌, ◌&&◌, ◌||◌, Bool, true, false, [], ◌∷◌, ◌++◌, length, refl, sym, ap, ◌∙◌, arith}
use Rattle.std.proofs.lemmas.Bool.{ltb-false}
use Rattle.t1_char.specs.Editions.{has_latest_rules, limit_of}
use Rattle.t1_char.specs.StepValues.{step_view}
use Rattle.t1_char.proofs.EditionLemmas.{limit_few}
use Rattle.t1_drawing.specs.DrawingRules.{drawing_rules}
use Rattle.t1_rules.specs.StepRules.{breaks, component_rules, step_rules}
use Rattle.t1_rules.specs.Watches.{most_steps}
use Rattle.t1_report.specs.Reports.{rules_with}
use Rattle.t1_report.proofs.Broken.{both_kinds, breaks_both, breaks_last, within_limit}
use Rattle.t1_report.proofs.violations.broken_at.Goals as goal

last_first : (a b c : Bool) → ((a || b) || c) ≡ ((a || c) || b)
last_first true b c = refl
last_first false true true = refl
last_first false true false = refl
last_first false false true = refl
last_first false false false = refl

pub returns-clause-broken : goal.returns-clause-broken
returns-clause-broken c = λ box before next n.
    let components = c.args.sidebearings.now.components in
    let edition = c.args.sidebearings.now.edition in
    let step = step_view c.args.step.now in
    let near = ltb-false (limit_of edition) c.args.step.now.number (sym c.requires.past ∙ c.if-is_past.false) in
    let inside : length before < limit_of edition = omega (arith, near, next.number) in
    let short : length before < most_steps = omega (arith, inside, limit_few edition) in
    let drawn = has_latest_rules edition && breaks (drawing_rules box) n before step in
    c.join.ensures n
    ∙ rw (c.see_where.ensures.answer edition box before (record { where_drawn = c.requires.draws; watched = next.seen; drawn = next.drawn }) short n, c.see_as.ensures before n)
    (last_first (breaks (step_rules edition) n before step) drawn (breaks (component_rules components) n before step)
    ∙ ap (λ b. b || drawn) (both_kinds edition components n before step _ _ _ refl refl refl)
    ∙ sym (breaks_both edition components box n before step)
    ∙ sym (breaks_last (rules_with edition components box) n before step)
    ∙ sym (within_limit (limit_of edition) (rules_with edition components box) n (before ++ step ∷ []) (length before) inside))

pub returns-clause-drawn : goal.returns-clause-drawn
returns-clause-drawn c = λ box before next few.
    let edition = c.args.sidebearings.now.edition in
    let near = ltb-false (limit_of edition) c.args.step.now.number (sym c.requires.past ∙ c.if-is_past.false) in
    c.see_where.ensures.stands edition box before
    (record { where_drawn = c.requires.draws; watched = next.seen; drawn = next.drawn }) (omega (arith, near, next.number, limit_few edition))
