use Rattle.std.proofs.Common.{sym, ◌∙◌}
use Rattle.t1_scan.proofs.Values.{no_number}
use Rattle.t1_scan.proofs.numbers.number.Goals as goal

pub returns-in-len1-up : goal.returns-in-len1-up
returns-in-len1-up c =
    sym (no_number c.args.run.now c.in-len1-up.len_at_least (sym c.begins_number.ensures ∙ c.if-not-begins_number.true))
