use Rattle.std.proofs.Common.{◌∙◌, refl}
use Rattle.t1_rules.specs.StepRules.{call_rules}
use Rattle.t1_rules.proofs.step_rules.calls.faults.Goals as goal

pub returns-then-is_quiet : goal.returns-then-is_quiet
unfolding call_rules
returns-then-is_quiet c = λ before n.
    let quiet = c.is_quiet.ensures in
    let none = c.if-is_quiet.true in
    c.empty.ensures n ∙ rw (c.requires.token, quiet.call none, quiet.back none, quiet.finish none, quiet.end none) refl

pub returns : goal.returns
unfolding call_rules
returns c = λ before n.
    rw (
      c.with-6.ensures n,
      c.with-5.ensures n,
      c.with-4.ensures n,
      c.with-3.ensures n,
      c.with-2.ensures n,
      c.with.ensures n,
      c.empty-2.ensures n,
      c.calls_by_number-2.ensures,
      c.calls_by_number.ensures,
      c.is_return.ensures,
      c.is_in_glyph-2.ensures,
      c.is_end.ensures,
      c.is_in_glyph.ensures,
      c.ends_in_glyph.ensures,
      c.is_finishing.ensures,
      c.len.ensures.value,
      c.requires.token,
    ) refl
