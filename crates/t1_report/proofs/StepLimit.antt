-- Which steps of a glyph the rules apply to.
use Rattle.std.proofs.Common.{suc, ◌+◌, length-take, refl, sym, ap, ◌∙◌, arith}
use Rattle.t1_char.specs.declared.edition.Edition.{Edition}
use Rattle.t1_char.specs.Editions.{limit_of}
use Rattle.t1_char.specs.Steps.{steps_of}
use Rattle.t1_rules.specs.Components.{components_of}
use Rattle.t1_rules.specs.StepRules.{breaks_at}
use Rattle.t1_report.specs.Checked.{checked}
use Rattle.t1_report.specs.Laws.Limits.{AreCheckedTo}
use Rattle.t1_report.specs.Reports.{rules_of}
use Rattle.t1_report.proofs.Broken.{at_limit, at_step, past_steps, rules_by, within_limit}

pub are_checked : (edition : Edition) → AreCheckedTo (limit_of edition) edition
are_checked edition = record {
  table = λ font glyph place n there less.
      at_step (checked font edition) (suc glyph) (suc place) glyph place n (omega arith) (omega arith) there
      ∙ within_limit (limit_of edition) (rules_of (checked font edition)) n (steps_of font glyph) place less
      ∙ ap (λ rules. breaks_at rules n (steps_of font glyph) place) (sym (rules_by (checked font edition) (components_of (limit_of edition) font) refl));
  first_past = λ font glyph n there.
      at_step (checked font edition) (suc glyph) (suc (limit_of edition)) glyph (limit_of edition) n (omega arith) (omega arith) there
      ∙ at_limit (limit_of edition) (rules_of (checked font edition)) n (steps_of font glyph) (limit_of edition) refl;
  further = λ font glyph place n past.
      past_steps (checked font edition) (suc glyph) glyph (suc place) n (omega arith)
      (let long = length-take (limit_of edition + 1) (steps_of font glyph) in omega (arith, long, past));
}
