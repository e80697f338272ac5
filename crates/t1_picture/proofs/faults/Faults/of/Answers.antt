use Rattle.std.specs.Prelude.{◌≡◌, List}
use Rattle.std.proofs.Common.{ap, sym, ◌∙◌}
use Rattle.std.proofs.lemmas.Result.{IfOk-weaker}
use Rattle.t1_report.specs.Faults.{FaultValue}
use Rattle.t1_picture.specs.Marks.{fault_alone, faults_by, faults_of}
use Rattle.t1_picture.specs.Subjects.{ShownValue, Subject, one_fault, shown_value, subject_of}
use Rattle.t1_picture.proofs.faults.Faults.of.Goals as goal

of_one : (s : Subject) (fault : FaultValue) → s.shown ≡ one_fault fault
    → (found all : List FaultValue) → fault_alone s fault ≡ faults_of s found all
of_one s fault same found all = sym (ap (λ (shown : ShownValue). faults_by shown s found all) same)

pub returns-in-Fault : goal.returns-in-Fault
returns-in-Fault c =
    let s = subject_of c.args.view.now in
    IfOk-weaker c.fault_alone.result _ _
    (λ faults is. λ found all are are_all. is ∙ of_one s _ (ap shown_value c.in-Fault.is) found all) c.fault_alone.ensures
