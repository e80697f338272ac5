use Rattle.std.proofs.Common.{◌≡◌, map, string_bytes, take}
use Rattle.t1_options.proofs.texts.copies.Given as goal

abbrev pub invariant-loop-text : goal.invariant-loop-text
invariant-loop-text l = map string_bytes l.copies.items ≡ map (λ s. s.now) (take l.text-index l.texts)
