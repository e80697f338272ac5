use Rattle.std.proofs.Common.{◌≤◌, ◌+◌, ◌-◌, sym, ◌∙◌, arith, length, drop, length-take}
use Rattle.std.proofs.lemmas.List.{take_rest}
use Rattle.t1_scan.proofs.Steps.{IsOpenAfter, inside_close, inside_deep, inside_unclosed, inside_more, inside_end}
use Rattle.t1_scan.proofs.nesting.inside_len.Goals as goal

pub returns-then-arrays-braces-eq0-clause-value : goal.returns-then-arrays-braces-eq0-clause-value
returns-then-arrays-braces-eq0-clause-value c =
    sym (inside_close (record { within = c.loop-at-test.true; arrays = c.arrays_after-arrays.ensures; braces = c.braces_after-braces.ensures }) (omega arith))
    ∙ c.loop-at.invariant.rest

pub returns-then-arrays-braces-gt-MOST_NESTED-clause-value :
    goal.returns-then-arrays-braces-gt-MOST_NESTED-clause-value
returns-then-arrays-braces-gt-MOST_NESTED-clause-value c =
    sym (inside_deep (record { within = c.loop-at-test.true; arrays = c.arrays_after-arrays.ensures; braces = c.braces_after-braces.ensures }) (omega arith))
    ∙ c.loop-at.invariant.rest

pub returns-in_err-at-clause-value : goal.returns-in_err-at-clause-value
returns-in_err-at-clause-value c =
    let value = rw (take_rest c.args.text.now (c.loop-at.at + 1)) at c.part_len.ensures.value in
    let state : IsOpenAfter c.args.text.now c.loop-at.at c.loop-at.arrays c.loop-at.braces c.arrays_after-arrays.result c.braces_after-braces.result =
    record { within = c.loop-at-test.true; arrays = c.arrays_after-arrays.ensures; braces = c.braces_after-braces.ensures } in
    c.from_residual.ensures ∙ sym (inside_unclosed state (sym value ∙ c.in_err-at.was) (omega arith)) ∙ c.loop-at.invariant.rest

pub loop-at-preserved : goal.loop-at-preserved
loop-at-preserved c =
    let value = rw (take_rest c.args.text.now (c.loop-at.at + 1)) at c.part_len.ensures.value in
    let one = c.in_ok-at.ensures.some in
    let bound : c.loop-at.at + c.in_ok-at.field-0 ≤ length c.args.text.now =
    omega (arith, c.in_ok-at.ensures.bound, length-take (length c.args.text.now - (c.loop-at.at + 1)) (drop (c.loop-at.at + 1) c.args.text.now)) in
    record {
      within = bound;
      some = omega arith;
      shallow = omega arith;
      rest = sym (inside_more (record { within = c.loop-at-test.true; arrays = c.arrays_after-arrays.ensures; braces = c.braces_after-braces.ensures })
          c.in_ok-at.field-0 (sym value ∙ c.in_ok-at.was) (omega arith) (omega arith) one bound) ∙ c.loop-at.invariant.rest;
    }

pub returns-clause-value : goal.returns-clause-value
returns-clause-value c =
    sym (inside_end c.args.text.now c.loop-at.at c.loop-at.arrays c.loop-at.braces (omega arith)) ∙ c.loop-at.invariant.rest
