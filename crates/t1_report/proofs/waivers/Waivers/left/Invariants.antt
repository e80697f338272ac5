use Rattle.std.proofs.Common.{◌≡◌, ℕ, ◌≤◌, ◌-◌, ◌&&◌, not, nat_le}
use Rattle.t1_rules.specs.Mask.{has}
use Rattle.t1_report.specs.Waivers.{is_waived}
use Rattle.t1_report.proofs.waivers.Waivers.left.Given as goal
use Rattle.t1_rules.specs.Book.{last_number}

abbrev pub invariant-loop-rule : goal.invariant-loop-rule
invariant-loop-rule l = record {
  left : (n : ℕ) → has l.left n ≡ (has l.rules n && not (nat_le n l.floor && is_waived l.self l.name n));
  floor : l.floor ≤ last_number;
}

abbrev pub decreases-loop-rule : goal.decreases-loop-rule
decreases-loop-rule l = last_number - l.floor
