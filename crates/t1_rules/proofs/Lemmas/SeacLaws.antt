-- Which arguments of seac are codes.
use Rattle.std.proofs.Common.{◌≡◌, ℕ, ℤ, ◌==◌, not, is_none, nat_lt, cond, Bool, true, false, Option, Some, None, [], ◌∷◌, length, refl, sym, ap, ◌∙◌, arith}
use Rattle.std.proofs.lemmas.Bool.{ltb-true, lt-ltb}
use Rattle.t1_char.specs.Numbers.{natural}
use Rattle.t1_char.proofs.Othersubrs.{whole_numbers_are_read}
use Rattle.t1_rules.specs.Laws.Othersubrs.{how_many}
use Rattle.t1_rules.specs.Laws.Seac.{CodesAreOneOfThree, CodesAreWholeTo255, IsCode}
use Rattle.t1_rules.specs.StandardEncoding.{standard_name}
use Rattle.t1_rules.specs.StepRules.Seac.{code_among, seac_code, is_named, is_unnamed}

some_of : (m code : ℕ) (b : Bool) → cond b (Some m) None ≡ Some code → (b ≡ true) × (m ≡ code)
some_of m code true e = let same : m ≡ code = cc in (refl, same)
some_of m code false e = let no : None ≡ Some code = e in cc

read : (z : ℤ) (code : ℕ) (found : Option ℕ) → natural z ≡ found → code_among found ≡ Some code → IsCode z code
read z code None there e = let no : None ≡ Some code = e in cc
read z code (Some m) there e =
    let both = some_of m code (nat_lt m 256) e in
    record { below = rw (sym both.1) (ltb-true m 256 both.0); whole = (whole_numbers_are_read z code).0 (there ∙ ap (λ (k : ℕ). Some k) both.1) }

written : (z : ℤ) (code : ℕ) → IsCode z code → seac_code z ≡ Some code
written z code is =
    ap code_among ((whole_numbers_are_read z code).1 (omega (arith, is.below)) is.whole) ∙ rw (lt-ltb code 256 is.below) refl

pub codes_are_whole_to_255 : CodesAreWholeTo255
codes_are_whole_to_255 z code = (λ e. read z code (natural z) refl e, λ is. written z code is)

pub codes_are_one_of_three : CodesAreOneOfThree
codes_are_one_of_three z = by_code (seac_code z)
  where
    by_name : (b : Bool) → how_many (false ∷ b ∷ not b ∷ []) ≡ 1
    by_name true = refl
    by_name false = refl

    by_code : (o : Option ℕ) → how_many (is_none o ∷ is_unnamed o ∷ is_named o ∷ []) ≡ 1
    by_code None = refl
    by_code (Some code) = by_name (length (standard_name code) == 0)
