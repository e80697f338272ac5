use Rattle.std.proofs.Common.{sym, ◌∙◌}
use Rattle.std.proofs.lemmas.List.{nil_from_length}
use Rattle.t1_picture.specs.Subjects.{subject_of}
use Rattle.t1_picture.proofs.FaultSteps.{none_waived}
use Rattle.t1_picture.proofs.faults.waived_faults.Goals as goal

pub returns-then-len-eq0 : goal.returns-then-len-eq0
returns-then-len-eq0 c = λ all are.
    none_waived (subject_of c.args.view.now) all (nil_from_length _ (sym c.len.ensures.len ∙ c.if-len-eq0.true))
