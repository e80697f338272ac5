-- No two glyphs of a font that was read have one name.
use Rattle.std.proofs.Common.{◌≡◌, ℕ, zero, suc, ◌<◌, false, List, [], ◌∷◌, length, slice_get, refl, sym, ap, ◌∙◌, subst, arith}
use Rattle.std.specs.List.{AllByRecursion, IsDistinct}
use Rattle.std.proofs.lemmas.Bool.{true≢false}
use Rattle.t1_font.specs.Fonts.{keys_of, name_in}
use Rattle.t1_font.specs.Keys.{same_name}
use Rattle.t1_font.proofs.ReadKeys.{fonts_have_distinct_keys}
use Rattle.t1_font.proofs.Tables.{name_exact}
use Rattle.t1_report.specs.Laws.WaivedFaults.{FontsHaveNoNameTwice}

abbrev Glyphs : Type 0
Glyphs = List (List ℕ × List ℕ)

other_at : (name : List ℕ) (gs : Glyphs) → AllByRecursion (λ y. same_name name y ≡ false) (keys_of gs) → (j : ℕ) → j < length gs
    → same_name name (name_in (slice_get gs j)) ≡ false
other_at name [] all j less = absurd (omega (arith, less))
other_at name (g ∷ gs) all zero less = all.0
other_at name (g ∷ gs) all (suc j) less = other_at name gs all.1 j (omega (arith, less))

never : (name other : List ℕ) → name ≡ other → same_name name other ≡ false → ⊥
never name other same differ =
    let self : same_name name name ≡ false = subst (λ (n : List ℕ). same_name name n ≡ false) (sym same) differ in
    true≢false (sym (name_exact.same name) ∙ self)

once : (gs : Glyphs) → IsDistinct same_name (keys_of gs) → (one other : ℕ) → one < length gs → other < length gs
    → name_in (slice_get gs one) ≡ name_in (slice_get gs other) → one ≡ other
unfolding IsDistinct
once [] d one other less less' same = absurd (omega (arith, less))
once (g ∷ gs) d zero zero less less' same = refl
once (g ∷ gs) d zero (suc j) less less' same = absurd (never g.0 (name_in (slice_get gs j)) same (other_at g.0 gs d.0 j (omega (arith, less'))))
once (g ∷ gs) d (suc i) zero less less' same = absurd (never g.0 (name_in (slice_get gs i)) (sym same) (other_at g.0 gs d.0 i (omega (arith, less))))
once (g ∷ gs) d (suc i) (suc j) less less' same = ap suc (once gs d.1 i j (omega (arith, less)) (omega (arith, less')) same)

pub fonts_have_no_name_twice : FontsHaveNoNameTwice
fonts_have_no_name_twice bytes font is = once font.glyphs (fonts_have_distinct_keys bytes font is).glyphs
