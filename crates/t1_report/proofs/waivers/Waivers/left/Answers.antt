use Rattle.std.proofs.Common.{◌&&◌, ◌==◌, ◌∙◌, not, nat_le, arith, ap, sym}
use Rattle.t1_rules.specs.Book.{number_of}
use Rattle.t1_rules.specs.Mask.{has}
use Rattle.t1_report.specs.Waivers.{is_waived}
use Rattle.t1_report.proofs.WaivedRules.{all_left, left_more, none_left_out}
use Rattle.t1_report.proofs.waivers.Waivers.left.Goals as goal

pub loop-rule-init : goal.loop-rule-init
loop-rule-init c = record {
  left = λ n. none_left_out c.args.self.now c.args.name.now (has c.args.rules) n;
  floor = omega arith;
}

pub loop-rule-preserved : goal.loop-rule-preserved
loop-rule-preserved c = record {
  left = λ n. c.without-left.ensures n ∙ ap (λ waived. has c.loop-rule.left n && not (waived && number_of c.in-Some.rule == n)) c.waives.ensures
      ∙ left_more c.args.self.now c.args.name.now c.args.rules c.loop-rule.floor c.in-Some.rule c.in-Some.ensures
      (has c.loop-rule.left) c.loop-rule.invariant.left n
      ∙ ap (λ m. has c.args.rules n && not (nat_le n m && is_waived c.args.self.now c.args.name.now n)) (sym c.number-floor.ensures.number);
  floor = c.number-floor.ensures.last;
}

pub returns : goal.returns
returns c = λ n. c.loop-rule.invariant.left n ∙ all_left c.args.self.now c.args.name.now c.args.rules c.loop-rule.floor c.in_default.ensures n
