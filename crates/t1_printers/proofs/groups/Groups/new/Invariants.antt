use Rattle.std.proofs.Common.{◌≡◌, map, replicate, vec_len}
use Rattle.t1_printers.proofs.groups.Groups.new.Given as goal
use Rattle.t1_printers.specs.Groups.{empty_group, group_value}

abbrev pub invariant-loop-rule : goal.invariant-loop-rule
invariant-loop-rule l = record {
  long : vec_len l.groups ≡ l._rule;
  values : map group_value l.groups.items ≡ replicate l._rule (empty_group l.room);
}
