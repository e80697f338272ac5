use Rattle.std.proofs.Common.{Global, String, string_bytes}
use Rattle.t1_answer_all.proofs.GivenEach.{given-append, given-stopped, map-both}
use Rattle.t1_answer_all.proofs.unlisted.give_unlisted.Goals as goal
use Rattle.t1_answer_all.specs.Unlisted.{unsearched}
use Rattle.t1_many.proofs.ReportLines.{lost_same}

pub returns-in_err-give_undecoded : goal.returns-in_err-give_undecoded
returns-in_err-give_undecoded g c =
    rw (lost_same {T = Unit {0}} c.from_residual.result c.in_err-give_undecoded.field-0.0 c.from_residual.ensures.1)
    (given-stopped g.T.Formatter.writes _ _ _ _ _ c.in_err-give_undecoded.ensures)

pub returns : goal.returns
returns g c =
    rw (map-both unsearched (λ (folder : String Global). string_bytes folder) c.args.unlisted.unsearched.now)
    (given-append g.T.Formatter.writes _ _ _ _ _ _ c.in_ok-give_undecoded.ensures c.give_unsearched.ensures)
