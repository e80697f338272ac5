use Rattle.std.proofs.Common.{map, take, string_bytes}
use Rattle.t1_many.proofs.Entries.{HaveGone}
use Rattle.t1_many.proofs.checking.check_all.Given as goal

abbrev pub invariant-loop-name : goal.invariant-loop-name
invariant-loop-name g l =
    HaveGone g.T.Policy.takes g.F.FontFiles.calls l.beside l.edition (map string_bytes (take l.name-index l.names)) l.fn.files l.files
    l.fn.policy l.policy
