use Rattle.std.proofs.Common.{◌≡◌, ◌+◌, ◌≤◌, false, vec_len}
use Rattle.std.specs.Io.KnownBytes.{Consumes}
use Rattle.t1_io.specs.Devices.{is_over}
use Rattle.t1_run.proofs.files.read_all.Given as goal

abbrev pub invariant-loop-turn : goal.invariant-loop-turn
invariant-loop-turn g l = record {
  consumed : Consumes (g.R.Source.state l.fn.source).left (g.R.Source.state l.source).left l.bytes.items;
  counted : (g.R.Source.state l.source).takes ≤ (g.R.Source.state l.fn.source).takes + l._turn;
  kept : (g.R.Source.state l.source).failed ≡ (g.R.Source.state l.fn.source).failed;
  goes_on : (g.R.Source.state l.source).ended ≡ (g.R.Source.state l.fn.source).ended;
  stops :
      is_over (g.R.Source.state l.fn.source) ≡ false
      → (g.R.Source.state l.source).late_takes ≡ (g.R.Source.state l.fn.source).late_takes;
  long : l._turn ≤ vec_len l.bytes;
  short : vec_len l.bytes ≤ l.most;
}
