-- Where there is room for a glyph, one more leaves at most 65,535.
use Rattle.std.proofs.Common.{◌≡◌, ◌<◌, ◌≤◌, ◌+◌, ◌&&◌, ◌||◌, ℕ, suc, Bool, true, false, cond, not, List, [], ◌∷◌, map, length, nat_le, refl, ap, ◌∙◌, arith, inl, inr}
use Rattle.std.proofs.lemmas.Bool.{cases_Bool}
use Rattle.std.proofs.lemmas.Bool.Decides.{nat_tests}
use Rattle.std.proofs.lemmas.List.{length-map}
use Rattle.std.specs.Borrow.{Bor}
use Rattle.indexmap.specs.IndexMap.{insert_entry}
use Rattle.t1_font.specs.Keys.{same_name}
use Rattle.t1_font.specs.Fonts.{FontValue}
use Rattle.t1_font.specs.Private.Room.{HasRoom}
use Rattle.t1_font.specs.PrivateText.{has_key}
use Rattle.t1_font.specs.Puts.{put_pair}
use Rattle.t1_font.specs.Views.{name_pair}
use Rattle.t1_font.proofs.FontMaps.{same_bytes, name_put}

length_put : {K V : Type 0} (eq : K → K → Bool) (ps : List (K × V)) (k : K) (v : V) → length (put_pair eq ps k v)
    ≡ cond (has_key eq ps k) (length ps) (length ps + 1)
length_put eq [] k v = refl
length_put eq (p ∷ ps) k v =
    elim (eq k p.0) as (λ b. length (cond b ((p.0, v) ∷ ps) (p ∷ put_pair eq ps k v)) ≡ cond (b || has_key eq ps k) (suc (length ps)) (suc (length ps) + 1)) [
      | true ↦ refl
      | false ↦ ap suc (length_put eq ps k v) ∙ (elim (has_key eq ps k) as
          (λ b. suc (cond b (length ps) (length ps + 1)) ≡ cond b (suc (length ps)) (suc (length ps) + 1))
          [ true ↦ refl | false ↦ (let one : suc (length ps + 1) ≡ suc (length ps) + 1 = omega arith in one) ])
    ]

-- There is room for one more.
below : (n : ℕ) → (nat_le 65535 n && true) ≡ false → n < 65535
below n h = elim (cases_Bool (nat_le 65535 n)) [
  | inl y ↦ (let no : true ≡ false = rw y at h in cc)
  | inr m ↦ grind (arith, nat_tests, m)
]

pub room_put : (ps : List (List ℕ × List ℕ)) (name bytes : List ℕ) → length ps ≤ 65535 → (nat_le 65535 (length ps) && not (has_key same_name ps name)) ≡ false
    → length (put_pair same_name ps name bytes) ≤ 65535
room_put ps name bytes few room =
    let count = length_put same_name ps name bytes in
    elim (cases_Bool (has_key same_name ps name)) [
      | inl y ↦ (let same : length (put_pair same_name ps name bytes) ≡ length ps = rw y at count in omega (arith, same, few))
      | inr n ↦ (let more : length (put_pair same_name ps name bytes) ≡ length ps + 1 = rw n at count in
          let free : (nat_le 65535 (length ps) && true) ≡ false = rw n at room in
          let small = below (length ps) free in omega (arith, more, small))
    ]

-- A glyph more in a font's map.
pub entries_few : (es : List (Bor (List ℕ) × Bor (List ℕ))) (name bytes : Bor (List ℕ)) (v : FontValue) → map name_pair es ≡ v.glyphs → length es ≤ 65535
    → HasRoom v name.now → length (insert_entry same_bytes es name bytes) ≤ 65535
entries_few es name bytes v is few room =
    let pairs : length (map name_pair es) ≤ 65535 = rw (length-map es name_pair) few in
    let free : (nat_le 65535 (length (map name_pair es)) && not (has_key same_name (map name_pair es) name.now)) ≡ false = rw is room in
    let after = room_put (map name_pair es) name.now bytes.now pairs free in
    let same = ap length (name_put es name bytes) in
    omega (arith, after, same, length-map (insert_entry same_bytes es name bytes) name_pair)
