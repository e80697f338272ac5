use Rattle.std.proofs.Common.{◌≤◌, ap, arith, length, sym, ◌∙◌}
use Rattle.std.proofs.lemmas.Bool.Decides.{nat_tests}
use Rattle.t1_rules.specs.Keys.{key_text_of}
use Rattle.t1_rules.proofs.Lemmas.KeyRows.{no_text, row_text}
use Rattle.t1_rules.proofs.keys.key_text.Goals as goal

pub returns-in-Some : goal.returns-in-Some
returns-in-Some c =
    let there = c.in-Some.ensures.lookup in
    ap (λ row. row.0.now) there.1 ∙ row_text c.rows.result.now c.rows.ensures.texts c.from.result c.in-Some.row.now there.3.0
    ∙ ap key_text_of c.from.ensures

pub returns-in-None : goal.returns-in-None
returns-in-None c =
    let past : length c.rows.result.now ≤ c.args.key = grind (arith, nat_tests, c.in-None.ensures.lookup, c.from.ensures) in
    sym (no_text c.rows.result.now c.rows.ensures.texts c.args.key past)
