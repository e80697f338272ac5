use Rattle.std.specs.Int.{w128}
use Rattle.std.proofs.Common.{FitsSigned, ◌≡◌, ◌≤◌, ◌*ℤ◌, ℤ, pos, int_eq, List, [], ◌∷◌, length, slice_index_or, refl, sym, ◌∙◌, to_z, of_z, w64, arith, rules}
use Rattle.t1_rules.specs.FontRules.Dictionaries.{has_equal_products}
use Rattle.t1_rules.proofs.Lemmas.Products.{equal_by_bits}
use Rattle.t1_rules.proofs.font_rules.dictionaries.has_equal_products.Goals as goal

-- Of four numbers or more the first four count.
by_four : (v : List ℤ) → 4 ≤ length v
    → int_eq (slice_index_or v 0 (pos 0) *ℤ slice_index_or v 3 (pos 0)) (slice_index_or v 1 (pos 0) *ℤ slice_index_or v 2 (pos 0)) ≡ has_equal_products v
by_four [] many = absurd (omega arith)
by_four (a ∷ []) many = absurd (omega arith)
by_four (a ∷ (b ∷ [])) many = absurd (omega arith)
by_four (a ∷ (b ∷ (c ∷ []))) many = absurd (omega arith)
by_four (a ∷ (b ∷ (c ∷ (d ∷ v)))) many = refl

pub returns-in-len4-up : goal.returns-in-len4-up
returns-in-len4-up c =
    let a : to_z w64 (of_z w64 (slice_index_or c.args.numbers.now 0 (pos 0))) ≡ slice_index_or c.args.numbers.now 0 (pos 0) = search rules in
    let b : to_z w64 (of_z w64 (slice_index_or c.args.numbers.now 1 (pos 0))) ≡ slice_index_or c.args.numbers.now 1 (pos 0) = search rules in
    let d : to_z w64 (of_z w64 (slice_index_or c.args.numbers.now 2 (pos 0))) ≡ slice_index_or c.args.numbers.now 2 (pos 0) = search rules in
    let e : to_z w64 (of_z w64 (slice_index_or c.args.numbers.now 3 (pos 0))) ≡ slice_index_or c.args.numbers.now 3 (pos 0) = search rules in
    let one : FitsSigned w128 c.product.result = search rules in
    let other : FitsSigned w128 c.product-in-len4-up.result = search rules in
    equal_by_bits c.product.result c.product-in-len4-up.result one other
    ∙ rw (c.product.ensures, c.product-in-len4-up.ensures, a, b, d, e) (by_four c.args.numbers.now c.in-len4-up.len_at_least)
