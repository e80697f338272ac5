-- The prefixes of a report.
use Rattle.std.specs.Prelude.{ℕ, List}
use Rattle.std.specs.List.{All, Any}
use Rattle.t1_rules.specs.Book.{number_of}
use Rattle.t1_report.specs.Checked.{CheckedFont}
use Rattle.t1_report.specs.Faults.{FaultValue}
use Rattle.t1_report.specs.Waivers.{Waiver}
use Rattle.t1_report.specs.Reports.{Comes, IsRising, IsViolationOf, Place, spot, spot_of, StandsAt, AreNumbered, IsTold, path_at}

-- A prefix of a report: all violations that come before this unit, step and rule number, and no other.
pub record IsFrontOf (Violated : Place → Type 0) (path_of : Place
    → List ℕ) (unit step rule : ℕ) (faults : List FaultValue) : Type 0 where
  pub rising : IsRising faults
  pub violations : All (IsViolationOf Violated path_of) faults
  pub before : All (λ fault. Comes (spot fault.unit fault.step (number_of fault.rule)) (spot unit step rule)) faults
  pub complete : (p : Place) → Violated p → Comes (spot_of p) (spot unit step rule)
      → Any (StandsAt p) faults
  pub numbered : AreNumbered 1 faults

-- The prefix of the report of a font by an edition, given waivers.
abbrev pub IsFront : CheckedFont → List Waiver → ℕ → ℕ → ℕ → List FaultValue → Type 0
IsFront font waivers unit step rule faults =
    IsFrontOf (IsTold font waivers) (path_at font) unit step rule faults
