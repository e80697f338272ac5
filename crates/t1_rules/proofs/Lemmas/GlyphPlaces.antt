-- The place of a glyph's name in the font's map is its place among the font's glyphs.
use Rattle.std.proofs.Common.{◌≡◌, ℕ, suc, nat_lt, cond, List, [], ◌∷◌, Option, None, Some, length, map, refl, ap, ◌∙◌}
use Rattle.std.specs.Borrow.{Bor}
use Rattle.std.specs.List.{position, position_or_len}
use Rattle.t1_font.specs.Keys.{same_name}
use Rattle.t1_font.specs.Views.{name_pair}
use Rattle.t1_font.proofs.FontMaps.{same_bytes}

abbrev keys_of : List (Bor (List ℕ) × Bor (List ℕ)) → List (Bor (List ℕ))
keys_of es = map (λ e. e.0) es

abbrev names_of : List (Bor (List ℕ) × Bor (List ℕ)) → List (List ℕ)
names_of es = map (λ glyph. glyph.0) (map name_pair es)

same_place : (es : List (Bor (List ℕ) × Bor (List ℕ))) (k : Bor (List ℕ)) → position_or_len (same_bytes k) (keys_of es) ≡ position_or_len
    (same_name k.now) (names_of es)
same_place [] k = refl
same_place (e ∷ es) k = search (same_place es k)

same_length : (es : List (Bor (List ℕ) × Bor (List ℕ))) → length (keys_of es) ≡ length (names_of es)
same_length [] = refl
same_length (e ∷ es) = ap suc (same_length es)

found : ℕ → ℕ → Option ℕ
found at count = cond (nat_lt at count) (Some at) None

pub name_position : (es : List (Bor (List ℕ) × Bor (List ℕ))) (k : Bor (List ℕ)) → position (same_bytes k) (keys_of es)
    ≡ position (same_name k.now) (names_of es)
unfolding found
name_position es k =
    ap (λ (n : ℕ). found n (length (keys_of es))) (same_place es k)
    ∙ ap (λ (n : ℕ). found (position_or_len (same_name k.now) (names_of es)) n) (same_length es)
