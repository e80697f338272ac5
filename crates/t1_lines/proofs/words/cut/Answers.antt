use Rattle.t1_lines.proofs.Cuts.{cut_nowhere, cut_there}
use Rattle.t1_lines.proofs.words.cut.Goals as goal

pub returns-in-Some : goal.returns-in-Some
returns-in-Some c =
    cut_there c.args.byte c.args.text.now _ _ _ _ c.front_len.result c.front_len.ensures.value c.split_at.ensures.front
    c.split_at.ensures.back c.in-Some.ensures.cases.0

pub returns-in-None : goal.returns-in-None
returns-in-None c =
    cut_nowhere c.args.byte c.args.text.now c.split_at.result.0.now c.split_at.result.1.now c.front_len.result c.front_len.ensures.value
    c.split_at.ensures.back c.in-None.ensures.cases
