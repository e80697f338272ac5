use Rattle.std.proofs.Common.{ne_eqb, sym, ◌∙◌}
use Rattle.t1_names.proofs.GlobLemmas.{in_set-alone, in_set-range}
use Rattle.t1_names.proofs.globs.is_member.Goals as goal

pub loop-first-preserved-in-Some-range_end : goal.loop-first-preserved-in-Some-range_end
loop-first-preserved-in-Some-range_end c =
    sym (in_set-range c.in-Some.first.now c.in-Some-range_end.last c.args.c c.loop-first.rest.now c.in-Some.more.now c.in-Some-range_end.after.now
    c.in-Some.ensures.cases.0 c.in-Some-range_end.ensures (sym c.is_between.ensures ∙ c.if-is_between.false)) ∙ c.loop-first.invariant

pub loop-first-preserved : goal.loop-first-preserved
loop-first-preserved c =
    sym (in_set-alone c.in-Some.first.now c.args.c c.loop-first.rest.now c.in-Some.more.now c.in-Some.ensures.cases.0 c.in-None.ensures
    (ne_eqb c.args.c c.in-Some.first.now c.if-c-first.false)) ∙ c.loop-first.invariant
