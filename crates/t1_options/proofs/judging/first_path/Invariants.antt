use Rattle.std.proofs.Common.{◌≡◌, drop, map}
use Rattle.t1_options.specs.Merged.{first_path}
use Rattle.t1_options.proofs.judging.first_path.Given as goal

abbrev pub invariant-loop-path : goal.invariant-loop-path
invariant-loop-path l = first_path (map (λ s. s.now) l.paths) ≡ first_path (map (λ s. s.now) (drop l.path-index l.paths))
