-- The rules, their numbers and the rows of the book.
use Rattle.std.proofs.Common.{slice_get, ◌≡◌, ◌<◌, ◌≤◌, ◌-◌, ℕ, refl, sym, ap, ◌∙◌, arith, slice_index_or, zero, suc, ◌+◌, ◌&&◌, ◌==◌, Bool, true, false, List, [], ◌∷◌, map, length, subst, Option, None, Some, cond, drop}
use Rattle.t1_rules.specs.declared.level.Level.{Level}
use Rattle.t1_rules.specs.declared.level.Level.TheVariants.{Must}
use Rattle.t1_rules.specs.declared.rule.Rule.{Rule}
use Rattle.t1_rules.specs.declared.rule.Rule.TheVariants.{F01, L01}
use Rattle.t1_rules.specs.Private.BookRows.{row_coded, row_view, rows}
use Rattle.t1_rules.specs.Book.{coded_in, level_of, number_of, last_number, code_of, rules, text_of}
use Rattle.std.specs.Borrow.{Bor}
use Rattle.t1_font.specs.Keys.{same_name}
use Rattle.std.proofs.lemmas.Bool.{eqb-true}
use Rattle.std.proofs.lemmas.List.{drop_all, length-map}
use Rattle.std.proofs.Math.ListN.{get_or-map}
use Rattle.std.proofs.Math.Seq.{drop-cons}

pub both : (a b : Bool) → (a && b) ≡ true → (a ≡ true) × (b ≡ true)
both true b e = (refl, e)
both false b e = let no : false ≡ true = e in cc

pub in_book : (rule : Rule) → (0 < number_of rule) × (number_of rule ≤ last_number)
in_book F01 = (omega arith, omega arith)
in_book _ = (omega arith, omega arith)

found : (rule : Rule) → slice_index_or rules (number_of rule - 1) L01 ≡ rule
found F01 = refl
found _ = refl

pub listed : (rule : Rule) → slice_get rules (number_of rule - 1) ≡ Some rule
listed F01 = refl
listed _ = refl

pub one_rule : (a b : Rule) → number_of a ≡ number_of b → a ≡ b
one_rule a b same = sym (found a) ∙ ap (λ (n : ℕ). slice_index_or rules (n - 1) L01) same ∙ found b

row_found : (rule : Rule) (d : Rule × Level × List ℕ × List ℕ) → slice_index_or rows (number_of rule - 1) d ≡ (rule, level_of rule, code_of rule, text_of rule)
row_found F01 d = refl
row_found _ d = refl

-- The row of a rule comes after those of lesser numbers.
pub row_at : (table : List (Rule × Level × Bor (List ℕ) × Bor (List ℕ))) → map row_view table ≡ rows → (rule : Rule) (i : ℕ) → i ≡ number_of rule - 1 →
    (d : Rule × Level × Bor (List ℕ) × Bor (List ℕ)) → row_view (slice_index_or table i d) ≡ (rule, level_of rule, code_of rule, text_of rule)
row_at table told rule i at d =
    rw at (sym (get_or-map row_view table (number_of rule - 1) d) ∙ ap (λ rs. slice_index_or rs (number_of rule - 1) (row_view d)) told
    ∙ row_found rule (row_view d))

-- The numbers of the rows rise one by one.
numbered_from : ℕ → List (Rule × Level × List ℕ × List ℕ) → Bool
numbered_from n [] = true
numbered_from n (r ∷ rs) = (number_of r.0 == n) && numbered_from (suc n) rs

number_in : (n : ℕ) (rs : List (Rule × Level × List ℕ × List ℕ)) → numbered_from n rs ≡ true → (i : ℕ) (d : Rule × Level × List ℕ × List ℕ) → i < length rs
    → number_of (slice_index_or rs i d).0 ≡ n + i
unfolding numbered_from
number_in n [] order i d less = absurd (omega arith)
number_in n (r ∷ rs) order zero d less =
    let parts = both (number_of r.0 == n) (numbered_from (suc n) rs) order in
    let first : number_of r.0 ≡ n = eqb-true (number_of r.0) n parts.0 in omega arith
number_in n (r ∷ rs) order (suc i) d less =
    let parts = both (number_of r.0 == n) (numbered_from (suc n) rs) order in
    let later = number_in (suc n) rs parts.1 i d (omega arith) in omega arith

in_order : numbered_from 1 rows ≡ true
unfolding numbered_from
in_order = refl

pub number_at : (table : List (Rule × Level × Bor (List ℕ) × Bor (List ℕ))) → map row_view table ≡ rows → (i : ℕ) (d : Rule × Level × Bor (List ℕ) × Bor (List ℕ)) →
    i < length table → number_of (slice_index_or table i d).0 ≡ 1 + i
number_at table told i d less =
    let within : i < length rows = subst (λ rs. i < length rs) told (omega (arith, length-map table row_view)) in
    ap (λ r. number_of r.0) (sym (get_or-map row_view table i d)) ∙ ap (λ rs. number_of (slice_index_or rs i (row_view d)).0) told
    ∙ number_in 1 rows in_order i (row_view d) within

-- The rule of a code among rows is that among their rules.
pub coded : (code : List ℕ) (rs : List Rule) → row_coded code (map (λ r. (r, level_of r, code_of r, text_of r)) rs) ≡ coded_in code rs
unfolding row_coded coded_in
coded code [] = refl
coded code (r ∷ rs) = ap (λ (found : Option Rule). cond (same_name (code_of r) code) (Some r) found) (coded code rs)

-- The rule of a code from one row on.
pub row_next : (code : List ℕ) (table : List (Rule × Level × Bor (List ℕ) × Bor (List ℕ))) (i : ℕ) (d : Rule × Level × Bor (List ℕ) × Bor (List ℕ)) → i < length table →
    row_coded code (map row_view (drop i table))
    ≡ cond (same_name (slice_index_or table i d).2.now code) (Some (slice_index_or table i d).0) (row_coded code (map row_view (drop (i + 1) table)))
unfolding row_coded
row_next code table i d less =
    let next : suc i ≡ i + 1 = omega arith in
    ap (λ (t : List (Rule × Level × Bor (List ℕ) × Bor (List ℕ))). row_coded code (map row_view t)) (drop-cons table i d less)
    ∙ ap (λ (n : ℕ). cond (same_name (slice_index_or table i d).2.now code) (Some (slice_index_or table i d).0) (row_coded code (map row_view (drop n table))))
    next

pub no_row : (code : List ℕ) (table : List (Rule × Level × Bor (List ℕ) × Bor (List ℕ))) (i : ℕ) → length table ≤ i
    → row_coded code (map row_view (drop i table)) ≡ None
unfolding row_coded
no_row code table i past = ap (λ (t : List (Rule × Level × Bor (List ℕ) × Bor (List ℕ))). row_coded code (map row_view t)) (drop_all i table past)

-- In place of a row where there is none.
abbrev pub empty_row : Rule × Level × Bor (List ℕ) × Bor (List ℕ)
empty_row = (F01, Must, record { ref_ptr = (0, 0); now = [] }, record { ref_ptr = (0, 0); now = [] })
