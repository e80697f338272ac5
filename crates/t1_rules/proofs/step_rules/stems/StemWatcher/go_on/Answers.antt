use Rattle.std.proofs.Common.{refl, ◌∙◌}
use Rattle.t1_char.specs.StepValues.{step_view}
use Rattle.t1_rules.proofs.Lemmas.Stems.{one_more_stem, stays_for_stems}
use Rattle.t1_rules.proofs.step_rules.stems.StemWatcher.go_on.Goals as goal

pub returns-then-is_quiet : goal.returns-then-is_quiet
returns-then-is_quiet c = λ edition before st.
    stays_for_stems edition c.args.self.now _ before (step_view c.args.step.now) (rw c.requires.token (c.is_quiet.ensures c.if-is_quiet.true)) st
    refl refl refl refl refl c.replaces_hints-self.ensures (rw (c.is_pop.ensures, c.requires.token))

pub returns : goal.returns
returns c = λ edition before st.
    one_more_stem edition c.args.self.now _ before (step_view c.args.step.now) st
    c.keep_stems.ensures.edition
    c.keep_stems.ensures.across
    c.keep_stems.ensures.upright
    (c.keep_stems.ensures.in_flex ∙ rw (c.starts_flex.ensures, c.ends_flex.ensures))
    (c.keep_stems.ensures.drawn ∙ rw (c.draws.ensures, c.replaces_hints-self.ensures))
    (c.keep_stems.ensures.replaced ∙ c.replaces_hints-self.ensures)
    (c.keep_stems.ensures.popped ∙ rw (c.is_pop.ensures, c.requires.token))
