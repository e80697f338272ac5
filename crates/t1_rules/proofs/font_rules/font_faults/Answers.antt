use Rattle.std.proofs.Common.{◌≤◌, refl, sym, ◌∙◌, rules}
use Rattle.t1_rules.specs.Keys.{key_count, kind_number}
use Rattle.t1_rules.proofs.Lemmas.FontRules.{past_last, with_latest, without_later, without_latest}
use Rattle.t1_rules.proofs.font_rules.font_faults.Goals as goal

pub returns-in_default : goal.returns-in_default
returns-in_default c =
    let past : key_count ≤ c.args.key = search rules in
    λ n. c.empty.ensures n ∙ sym (past_last c.args.edition c.args.key past c.args.font.now c.args.index n)
