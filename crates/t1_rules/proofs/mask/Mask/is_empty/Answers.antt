use Rattle.std.proofs.Common.{◌≡◌, refl}
use Rattle.std.proofs.lemmas.Bool.{eqb-true}
use Rattle.std.proofs.lemmas.Nat.Bits.{bit_at-zero}
use Rattle.t1_rules.proofs.mask.Mask.is_empty.Goals as goal

pub returns : goal.returns
returns c = λ empty n. let none : c.args.self.bits ≡ 0 = eqb-true c.args.self.bits 0 empty in rw (none, bit_at-zero n) refl
