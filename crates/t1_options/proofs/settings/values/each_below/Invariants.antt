use Rattle.std.proofs.Common.{◌≡◌, map, string_bytes, take}
use Rattle.t1_options.specs.Settings.Paths.{glob_below}
use Rattle.t1_options.proofs.settings.values.each_below.Given as goal

abbrev pub invariant-loop-glob : goal.invariant-loop-glob
invariant-loop-glob l = map string_bytes l.placed.items ≡ map (glob_below l.folder) (map string_bytes (take l.glob-index l.globs))
