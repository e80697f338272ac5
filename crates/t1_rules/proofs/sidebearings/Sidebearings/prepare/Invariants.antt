use Rattle.std.proofs.Common.{◌≡◌, map}
use Rattle.std.specs.List.{range_with_len}
use Rattle.t1_char.specs.Editions.{limit_of}
use Rattle.t1_rules.specs.Components.{component_at}
use Rattle.t1_rules.proofs.sidebearings.Sidebearings.prepare.Given as goal

abbrev pub invariant-loop-code : goal.invariant-loop-code
invariant-loop-code l = l.components.items ≡ map (component_at (limit_of l.edition) l.font) (range_with_len 0 l.code)
