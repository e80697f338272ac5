use Rattle.std.proofs.Common.{◌≡◌, ◌++◌, ◌-◌, string_bytes}
use Rattle.t1_picture.specs.Bands.{zones_from}
use Rattle.t1_picture.proofs.bands.write_pairs.Given as goal

abbrev pub invariant-loop-zone : goal.invariant-loop-zone
invariant-loop-zone l =
    string_bytes l.svg ++ zones_from l.frame l.list l.zone (l.most - l.zone) ≡ string_bytes l.fn.svg ++ zones_from l.frame l.list 0 l.most
