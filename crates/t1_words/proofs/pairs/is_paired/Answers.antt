use Rattle.std.proofs.Common.{◌+◌, ◌∙◌, sym}
use Rattle.std.proofs.lemmas.List.{take_rest}
use Rattle.t1_words.proofs.Steps.{kept, pairs_stuck, pairs_on, pairs_skip}
use Rattle.t1_words.proofs.pairs.is_paired.Goals as goal
use Rattle.t1_words.proofs.pairs.is_paired.Goals.{then-skip-gt0, else-skip-gt0+else-not-goes_on+in-Some}

pub returns-in_default : goal.returns-in_default
returns-in_default c =
    let value = rw (take_rest c.args.text.now (c.loop-at.at + 1)) at c.skipped_len.ensures.value in
    sym (pairs_stuck c.args.text.now c.loop-at.at c.loop-at.skip c.loop-at.brackets.items c.goes_on.new.brackets.items c.loop-at-test.true
    c.if-skip-gt0.false (kept c.if-not-goes_on.false c.goes_on.ensures) (sym value ∙ c.in_default.is)) ∙ c.loop-at.invariant

pub loop-at-preserved : goal.loop-at-preserved
loop-at-preserved c =
    elim c.if-skip-gt0.branch [
      | then-skip-gt0 w ↦
          rw (w.skip-is, w.brackets-is)
          (sym (pairs_skip c.args.text.now c.loop-at.at c.loop-at.skip c.loop-at.brackets.items c.loop-at-test.true w.if-skip-gt0.true) ∙ c.loop-at.invariant)
      | else-skip-gt0+else-not-goes_on+in-Some w ↦
          let value = rw (take_rest c.args.text.now (c.loop-at.at + 1)) at w.skipped_len.ensures.value in
          rw (w.skip-is, w.brackets-is)
          (sym (pairs_on c.args.text.now c.loop-at.at c.loop-at.skip c.loop-at.brackets.items w.goes_on.new.brackets.items w.in-Some.len c.loop-at-test.true
          w.if-skip-gt0.false (kept w.if-not-goes_on.false w.goes_on.ensures) (sym value ∙ w.in-Some.is)) ∙ c.loop-at.invariant)
    ]
