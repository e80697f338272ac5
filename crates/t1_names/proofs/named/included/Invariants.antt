use Rattle.std.proofs.Common.{◌≡◌, ◌++◌, map, string_bytes}
use Rattle.t1_names.specs.GlobValues.{glob_of}
use Rattle.t1_names.specs.Named.{included}
use Rattle.t1_names.proofs.named.included.Given as goal

abbrev pub invariant-loop-name : goal.invariant-loop-name
invariant-loop-name l =
    map string_bytes l.kept.items ++ included (map glob_of l.excluded) (map string_bytes l.name-iterator.rest.items)
    ≡ included (map glob_of l.excluded) (map string_bytes l.fn.names.items)
