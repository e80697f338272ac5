use Rattle.std.proofs.Common.{◌≡◌, ◌++◌, map, string_bytes}
use Rattle.t1_names.specs.Once.{each_after, each_once}
use Rattle.t1_names.proofs.once.each_once.Given as goal

abbrev pub invariant-loop-name : goal.invariant-loop-name
invariant-loop-name l =
    map string_bytes l.kept.keys ++ each_after (map string_bytes l.kept.keys) (map string_bytes l.name-iterator.rest.items)
    ≡ each_once (map string_bytes l.fn.names.items)
