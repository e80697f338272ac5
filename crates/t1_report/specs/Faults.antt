-- What a fault says.
use Rattle.std.specs.Prelude.{ℕ, List, map}
use Rattle.t1_rules.specs.declared.rule.Rule.{Rule}
use Rattle.t1_report.specs.declared.faults.Fault.{Fault}

-- Its number in the report, its place, the rule, and the numbers of the Subrs that are being executed.
pub record FaultValue : Type 0 where
  pub number : ℕ
  pub unit : ℕ
  pub step : ℕ
  pub rule : Rule
  pub path : List ℕ

abbrev pub fault_value : Fault → FaultValue
fault_value f = record { number = f.number; unit = f.unit; step = f.step; rule = f.rule; path = f.path.items }

abbrev pub faults_of : List Fault → List FaultValue
faults_of faults = map fault_value faults
