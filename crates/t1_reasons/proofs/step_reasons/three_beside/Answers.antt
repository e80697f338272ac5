use Rattle.std.proofs.Common.{sym, ◌∙◌}
use Rattle.t1_reasons.specs.declared.reason.Reason.TheVariants.{Stems}
use Rattle.t1_reasons.specs.HintSets.{set_at}
use Rattle.t1_reasons.specs.StepReasons.{have_other_edges}
use Rattle.t1_reasons.proofs.Finds.{found_of_three}
use Rattle.t1_reasons.proofs.step_reasons.three_beside.Goals as goal

pub returns : goal.returns
returns c =
    c.or-2.ensures
    ∙ rw (c.or.ensures, c.other_edges.ensures, c.other_edges-2.ensures, c.other_edges-3.ensures)
    (sym (found_of_three have_other_edges (Stems c.args.own.one (set_at c.args.other.step c.args.other.triple.one))
    (Stems c.args.own.two (set_at c.args.other.step c.args.other.triple.two))
    (Stems c.args.own.three (set_at c.args.other.step c.args.other.triple.three))))
