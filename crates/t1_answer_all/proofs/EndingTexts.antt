-- What is printed once all fonts were checked, step by step.
use Rattle.std.proofs.Common.{◌≡◌, ℕ, Bool, true, false, List, Result, Ok, Err, if◌then◌else◌, refl, sym, subst}
use Rattle.std.specs.Result.{IsErrAnd}
use Rattle.t1_answer_all.specs.Endings.{Ends, known_faults_in, mismatches_text, rest_text, rows_in}
use Rattle.t1_answer_all.specs.Plans.{PlanValue}
use Rattle.t1_answer_all.specs.declared.ending.Left.{Left}
use Rattle.t1_answer_all.specs.declared.findings.Findings.{Findings}
use Rattle.t1_io.proofs.SinkLemmas.{PutFailed-first, PutFailed-second}
use Rattle.t1_io.specs.Devices.{PutFailed, SinkState, Wrote}
use Rattle.t1_known.specs.Writes.{WritesAll}
use Rattle.t1_many.specs.KnownFaults.{Reading}
use Rattle.t1_many.specs.declared.policy.Lost.{Lost}
use Rattle.t1_many.specs.declared.policy.Lost.TheVariants.{Device, Memory}
use Rattle.t1_run.specs.declared.status.Status.{Status}
use Rattle.t1_run.specs.declared.status.Status.TheVariants.{Clean, Failed}

-- ---- statuses

pub not_failed : (b : Bool) (status : Status) → status ≡ (if b then Failed else Clean) → (status ≡ Failed → ⊥) → b ≡ false
not_failed true status is other = absurd (other is)
not_failed false status is other = refl

-- ---- what is printed

module _ (plan : PlanValue) (found : Findings) (all : List Reading) (a b c : SinkState) where
  abbrev rest : List ℕ
  rest = rest_text plan found (rows_in (known_faults_in plan.mode plan.choice all))

  pub short_failed : (lost : Lost) (result : Result Left Lost) → IsErrAnd result (λ l. l ≡ lost)
      → WritesAll a b (mismatches_text plan.mode plan.choice all) (Err lost) → Ends plan found all a b result
  short_failed lost (Ok left) is wrote = absurd is
  short_failed Device (Err l) is failed =
      subst (λ (e : Lost). Ends plan found all a b (Err e)) (sym is)
      (PutFailed-first a b (mismatches_text plan.mode plan.choice all) rest failed)
  short_failed Memory (Err l) is same = subst (λ (e : Lost). Ends plan found all a b (Err e)) (sym is) same

  pub rest_failed : (result : Result Left Lost) → IsErrAnd result (λ l. l ≡ Device) → Wrote a b (mismatches_text plan.mode plan.choice all)
      → PutFailed b c rest → Ends plan found all a c result
  rest_failed (Ok left) is wrote failed = absurd is
  rest_failed (Err l) is wrote failed =
      subst (λ (e : Lost). Ends plan found all a c (Err e)) (sym is)
      (PutFailed-second a b c (mismatches_text plan.mode plan.choice all) rest wrote failed)
