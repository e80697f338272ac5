-- Where 12 and 6 are side by side.
use Rattle.std.proofs.Common.{◌≡◌, ◌==◌, ◌&&◌, ◌||◌, ◌∙◌, Bool, true, false, ℕ, List, [], ◌∷◌, ap, sym, refl}
use Rattle.t1_char.specs.Private.Seacs.{begins_with_6, has_pair}

and_false : (b : Bool) → (b && false) ≡ false
and_false true = refl
and_false false = refl

pub pair_behind : (byte : ℕ) (rest : List ℕ) → has_pair 0 (byte ∷ rest) ≡ has_pair byte rest
pair_behind byte rest = ap (λ b. b || has_pair byte rest) (and_false (byte == 6))

pub pair_other : (byte : ℕ) (rest : List ℕ) → (byte == 12) ≡ false → has_pair byte rest ≡ has_pair 0 rest
pair_other byte [] not = refl
pair_other byte (next ∷ rest) not = ap (λ b. (next == 6 && b) || has_pair next rest) not

pub pair_past : (byte : ℕ) (rest : List ℕ) → begins_with_6 rest ≡ false → has_pair byte rest ≡ has_pair 0 rest
pair_past byte [] not = refl
pair_past byte (next ∷ rest) not =
    ap (λ b. (b && byte == 12) || has_pair next rest) not ∙ sym (ap (λ b. (b && 0 == 12) || has_pair next rest) not)
