-- What an insertion and a look-up do to the pairs of a font's value.
use Rattle.std.proofs.Common.{◌≡◌, ℕ, Bool, true, false, cond, Some, List, [], ◌∷◌, map, refl, ap, is_some, nat_eq, zero, suc, set, ◌++◌, ◌||◌, ◌∙◌, sym, slice_get, option_map, Option, None}
use Rattle.t1_font.specs.Fonts.{FontValue, glyph_name, is_glyph_twice, name_in}
use Rattle.std.proofs.lemmas.List.{map-append}
use Rattle.std.specs.List.{list_any}
use Rattle.indexmap.specs.IndexSet.{insert_key}
use Rattle.std.specs.Borrow.{Bor}
use Rattle.std.specs.Map.{lookup}
use Rattle.indexmap.specs.IndexMap.{insert_entry}
use Rattle.t1_font.specs.declared.entry.Entry.{Entry}
use Rattle.t1_font.specs.Entries.{entry_view}
use Rattle.t1_font.specs.Keys.{same_name}
use Rattle.t1_font.specs.Puts.{put_pair, twice_more}
use Rattle.t1_font.specs.PrivateText.{has_key}
use Rattle.t1_font.specs.Views.{bytes_of, number_pair, name_pair, names_now}
use Rattle.t1_font.proofs.Maps.{entries_put, has_entry}

abbrev pub same_bytes : Bor (List ℕ) → Bor (List ℕ) → Bool
same_bytes a b = same_name a.now b.now

pub name_put : (es : List (Bor (List ℕ) × Bor (List ℕ))) (k v : Bor (List ℕ)) → map name_pair (insert_entry same_bytes es k v) ≡ put_pair same_name
    (map name_pair es) k.now v.now
name_put es k v = entries_put same_bytes same_name (λ b. b.now) (λ b. b.now) (λ a b. refl) es k v

pub number_put : (es : List (ℕ × Bor (List ℕ))) (k : ℕ) (v : Bor (List ℕ)) → map number_pair (insert_entry nat_eq es k v)
    ≡ put_pair nat_eq (map number_pair es) k v.now
number_put es k v = entries_put nat_eq nat_eq (λ b. b) (λ b. b.now) (λ a b. refl) es k v

pub name_has : (es : List (Bor (List ℕ) × Bor (List ℕ))) (k : Bor (List ℕ)) → is_some (lookup (same_bytes k) es) ≡ has_key same_name (map name_pair es) k.now
name_has es k = has_entry same_bytes same_name (λ b. b.now) (λ b. b.now) (λ a b. refl) es k

pub number_has : (es : List (ℕ × Bor (List ℕ))) (k : ℕ) → is_some (lookup (nat_eq k) es) ≡ has_key nat_eq (map number_pair es) k
number_has es k = has_entry nat_eq nat_eq (λ b. b) (λ b. b.now) (λ a b. refl) es k

pub values_put : (es : List Entry) (i : ℕ) (e : Entry) → map entry_view (set es i e) ≡ set (map entry_view es) i (entry_view e)
values_put [] i e = refl
values_put (x ∷ es) zero e = refl
values_put (x ∷ es) (suc i) e = ap (λ vs. entry_view x ∷ vs) (values_put es i e)

pub number_found : (es : List (ℕ × Bor (List ℕ))) (k : ℕ) → bytes_of (lookup (nat_eq k) es) ≡ lookup (nat_eq k) (map number_pair es)
number_found [] k = refl
number_found (e ∷ es) k = elim (nat_eq k e.0) as
    (λ b. bytes_of (cond b (Some e.1) (lookup (nat_eq k) es)) ≡ cond b (Some e.1.now) (lookup (nat_eq k) (map number_pair es))) [
      | true ↦ refl
      | false ↦ number_found es k
    ]

-- What is there twice, after a name more.
pub any_name : (names : List (Bor (List ℕ))) (name : Bor (List ℕ)) → list_any (same_bytes name) names ≡ list_any (same_name name.now) (names_now names)
any_name [] name = refl
any_name (b ∷ names) name = ap (λ x. same_bytes name b || x) (any_name names name)

pub name_twice : (names : List (Bor (List ℕ))) (name : Bor (List ℕ)) → names_now (insert_key same_bytes names name) ≡ twice_more same_name
    (names_now names) name.now true
name_twice names name =
    rw (any_name names name)
    (elim (list_any (same_name name.now) (names_now names)) as
    (λ b. names_now (cond b names (names ++ name ∷ [])) ≡ cond b (names_now names) (names_now names ++ name.now ∷ [])) [
      | true ↦ refl
      | false ↦ map-append (λ b. b.now) names (name ∷ [])
    ])

-- A glyph by its place.
pair_at : (es : List (Bor (List ℕ) × Bor (List ℕ))) (i : ℕ) → slice_get (map name_pair es) i ≡ option_map name_pair (slice_get es i)
pair_at [] i = refl
pair_at (e ∷ es) zero = refl
pair_at (e ∷ es) (suc i) = pair_at es i

named_at : (v : FontValue) (es : List (Bor (List ℕ) × Bor (List ℕ))) (i : ℕ) (r : Option (Bor (List ℕ) × Bor (List ℕ))) → map name_pair es ≡ v.glyphs
    → r ≡ slice_get es i → name_in (option_map name_pair r) ≡ glyph_name v i
named_at v es i r glyphs entry = ap name_in (ap (option_map name_pair) entry ∙ sym (pair_at es i) ∙ ap (λ gs. slice_get gs i) glyphs)

pub name_at : (v : FontValue) (es : List (Bor (List ℕ) × Bor (List ℕ))) (i : ℕ) (name bytes : Bor (List ℕ)) → map name_pair es ≡ v.glyphs
    → Some (name, bytes) ≡ slice_get es i → name.now ≡ glyph_name v i
name_at v es i name bytes glyphs entry = named_at v es i (Some (name, bytes)) glyphs entry

pub no_name_past : (v : FontValue) (es : List (Bor (List ℕ) × Bor (List ℕ))) (i : ℕ) → map name_pair es ≡ v.glyphs → None ≡ slice_get es i
    → [] ≡ glyph_name v i
no_name_past v es i glyphs entry = named_at v es i None glyphs entry

abbrev twice_by : FontValue → Option (List ℕ × List ℕ) → Bool
twice_by v r = elim r [ None ↦ false | Some p ↦ list_any (same_name p.0) v.glyphs_twice ]

found_at : (v : FontValue) (es : List (Bor (List ℕ) × Bor (List ℕ))) (i : ℕ) (r : Option (Bor (List ℕ) × Bor (List ℕ))) → map name_pair es ≡ v.glyphs
    → r ≡ slice_get es i → twice_by v (option_map name_pair r) ≡ is_glyph_twice v i
found_at v es i r glyphs entry = ap (twice_by v) (ap (option_map name_pair) entry ∙ sym (pair_at es i) ∙ ap (λ gs. slice_get gs i) glyphs)

pub twice_at : (v : FontValue) (es : List (Bor (List ℕ) × Bor (List ℕ))) (names : List (Bor (List ℕ))) (i : ℕ) (name bytes : Bor (List ℕ))
    → map name_pair es ≡ v.glyphs → names_now names ≡ v.glyphs_twice → Some (name, bytes) ≡ slice_get es i
    → list_any (same_bytes name) names ≡ is_glyph_twice v i
twice_at v es names i name bytes glyphs twice entry =
    any_name names name ∙ ap (list_any (same_name name.now)) twice ∙ found_at v es i (Some (name, bytes)) glyphs entry

pub twice_past : (v : FontValue) (es : List (Bor (List ℕ) × Bor (List ℕ))) (i : ℕ) → map name_pair es ≡ v.glyphs → None ≡ slice_get es i
    → false ≡ is_glyph_twice v i
twice_past v es i glyphs entry = found_at v es i None glyphs entry
