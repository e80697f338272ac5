-- The rows of the keys, by the numbers of the keys.
use Rattle.std.proofs.Common.{◌≡◌, ℕ, zero, suc, ◌+◌, ◌<◌, ◌≤◌, List, [], ◌∷◌, length, map, slice_index_or, refl, sym, ap, subst, ◌∙◌, arith}
use Rattle.std.proofs.Math.ListN.{get_or-map}
use Rattle.std.proofs.lemmas.List.{get_or_default, length-map}
use Rattle.std.proofs.lemmas.List.FromFn.{get_or-range_with_len}
use Rattle.std.specs.Borrow.{Bor}
use Rattle.std.specs.List.{range_with_len}
use Rattle.t1_rules.specs.declared.keys.KeyKind.{KeyKind}
use Rattle.t1_char.specs.declared.edition.Edition.{Edition}
use Rattle.t1_font.specs.Fonts.{FontValue}
use Rattle.t1_rules.specs.Keys.{key_count, key_text_of, key_texts, kind_number, places_by_key, places_of}

pub row_text : (table : List (Bor (List ℕ) × KeyKind)) → map (λ row. row.0.now) table ≡ key_texts → (key : ℕ) (d : Bor (List ℕ) × KeyKind)
    → key < length table → (slice_index_or table key d).0.now ≡ key_text_of key
row_text table told key d less =
    let within : key < length key_texts = subst (λ ts. key < length ts) told (omega (arith, length-map table (λ row. row.0.now), less)) in
    sym (get_or-map (λ row. row.0.now) table key d) ∙ ap (λ ts. slice_index_or ts key d.0.now) told
    ∙ get_or_default key_texts key d.0.now _ within

pub row_kind : (table : List (Bor (List ℕ) × KeyKind)) → map (λ row. kind_number row.1) table ≡ range_with_len 0 key_count → (key : ℕ)
    (d : Bor (List ℕ) × KeyKind) → key < length table → kind_number (slice_index_or table key d).1 ≡ key
row_kind table told key d less =
    let within : key < length (range_with_len 0 key_count) =
    subst (λ ns. key < length ns) told (omega (arith, length-map table (λ row. kind_number row.1), less)) in
    let from_zero : 0 + key ≡ key = omega arith in
    sym (get_or-map (λ row. kind_number row.1) table key d) ∙ ap (λ ns. slice_index_or ns key (kind_number d.1)) told
    ∙ get_or-range_with_len 0 key_count key (kind_number d.1) within ∙ from_zero

-- There is no text past the last key, and there are no places.
past_list : {A : Type 0} (xs : List A) (place : ℕ) (d : A) → length xs ≤ place → slice_index_or xs place d ≡ d
past_list [] place d past = refl
past_list (x ∷ xs) zero d past = absurd (omega (arith, past))
past_list (x ∷ xs) (suc place) d past = past_list xs place d (omega (arith, past))

pub no_text : (table : List (Bor (List ℕ) × KeyKind)) → map (λ row. row.0.now) table ≡ key_texts → (key : ℕ) → length table ≤ key → key_text_of key ≡ []
no_text table told key past =
    past_list key_texts key [] (subst (λ ts. length ts ≤ key) told (omega (arith, length-map table (λ row. row.0.now), past)))

pub no_places : (edition : Edition) (font : FontValue) (key : ℕ) → key_count ≤ key → places_of edition font key ≡ 0
no_places edition font key past = past_list (places_by_key edition font) key 0 past
