use Rattle.std.proofs.Common.{◌≡◌, ◌&&◌, ◌||◌, ◌==◌, ◌∙◌, Bool, ℕ, ap}
use Rattle.t1_many.proofs.Letters.{above_next, set_next}
use Rattle.t1_many.proofs.choice.told_rules.Goals as goal
use Rattle.t1_many.specs.Choice.{choice_of, is_told}
use Rattle.t1_rules.specs.Book.{code_of, number_of}
use Rattle.t1_rules.specs.Mask.{has}
use Rattle.t1_rules.specs.declared.rule.Rule.{Rule}

pub loop-number-preserved : goal.loop-number-preserved
loop-number-preserved c =
    let told : Rule → Bool = λ (rule : Rule). is_told (choice_of c.args.choice) (code_of rule) in
    let with : (n : ℕ) → has c.with-rules.result n ≡ (told c.in-Some.rule && number_of c.in-Some.rule == n || has c.loop-number.rules n) =
    λ (n : ℕ). c.with-rules.ensures n
    ∙ ap (λ (b : Bool). b && number_of c.in-Some.rule == n || has c.loop-number.rules n)
    (c.is_told.ensures ∙ ap (is_told (choice_of c.args.choice)) (c.as_bytes.ensures.value ∙ c.rule_code.ensures)) in
    record {
      set = set_next told (has c.loop-number.rules) (has c.with-rules.result) c.loop-number.number c.in-Some.rule c.in-Some.ensures.some with
          c.loop-number.invariant.set c.loop-number.invariant.above;
      above = above_next told (has c.loop-number.rules) (has c.with-rules.result) c.loop-number.number c.in-Some.rule c.in-Some.ensures.some with
          c.loop-number.invariant.above;
    }
