use Rattle.std.proofs.Common.{◌<◌, length, sym, ◌∙◌, arith}
use Rattle.t1_char.specs.StepValues.{step_view}
use Rattle.t1_rules.specs.Private.Standing.{WatchesStandFor}
use Rattle.t1_rules.specs.Watches.{IsCalm}
use Rattle.t1_rules.proofs.Lemmas.Watches.{no_fault_at_number, stays_at_number}
use Rattle.t1_rules.proofs.watches.Watches.see_number.Goals as goal

pub returns-then-len-lt-MOST_NUMBERS : goal.returns-then-len-lt-MOST_NUMBERS
unfolding WatchesStandFor
returns-then-len-lt-MOST_NUMBERS c =
    let calm : IsCalm c.args.self.now = c.is_calm.ensures c.if-is_calm.true in
    let few : length c.args.step.now.stack < 24 = omega (arith, c.if-len-lt-MOST_NUMBERS.true, c.len.ensures.len) in
    record {
      stands = λ edition before st short.
          stays_at_number edition c.args.self.now before (step_view c.args.step.now) _ c.requires.token calm st;
      answer = λ edition before st short n.
          c.empty.ensures n
          ∙ sym (no_fault_at_number edition n before (step_view c.args.step.now) _ c.requires.token few
          (sym st.1.0.replaced ∙ calm.replaced) (sym st.1.0.popped ∙ calm.hints_popped));
    }
