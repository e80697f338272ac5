use Rattle.std.proofs.Common.{◌≡◌, true, false, sym, ◌∙◌}
use Rattle.t1_rules.specs.StepRules.Stems.{lies_across, stands_upright}
use Rattle.t1_rules.specs.StepRules.Tokens.{is_command}
use Rattle.t1_reasons.proofs.steps_before.StepsBefore.stem_pair.Goals as goal

pub returns-then-lies_across : goal.returns-then-lies_across
returns-then-lies_across c = λ edition before st short.
    let across : is_command lies_across c.args.step.now.token ≡ true = sym c.lies_across.ensures ∙ c.if-lies_across.true in
    c.own_pair.ensures ∙ rw (across, c.across.ensures before st.hints, st.hints.seen)

pub returns-then-stands_upright : goal.returns-then-stands_upright
returns-then-stands_upright c = λ edition before st short.
    let across : is_command lies_across c.args.step.now.token ≡ false = sym c.lies_across.ensures ∙ c.if-lies_across.false in
    let upright : is_command stands_upright c.args.step.now.token ≡ true = sym c.stands_upright.ensures ∙ c.if-stands_upright.true in
    c.own_pair-then-stands_upright.ensures ∙ rw (across, upright, c.upright.ensures before st.hints, st.hints.seen)
