-- The glyphs of a font that was read have names, since each turn states such.
use Rattle.std.proofs.Common.{ℕ, zero, suc, true, false, cond, List, [], ◌∷◌, refl, IsTrue, slice_get}
use Rattle.std.proofs.lemmas.List.Elements.{All-nil, All-cons, All-head, All-tail}
use Rattle.std.specs.List.{All, list_all}
use Rattle.t1_scan.specs.Bytes.{is_regular}
use Rattle.t1_font.specs.Keys.{same_name}
use Rattle.t1_font.specs.Fonts.{Stated, Marks, FontValue, plain, encoding, code, bad_code, size, subr, glyph, value_of, glyph_name, name_in}
use Rattle.t1_font.specs.Puts.{put, put_pair}
use Rattle.t1_lines.specs.Laws.{FontsHaveNames}
use Rattle.t1_lines.specs.Names.{HasNames}
use Rattle.t1_font.proofs.Kept.{font_holds}
use Rattle.t1_font.proofs.TurnsWithin.{Fits, clear_fits, private_fits}

abbrev Named : List ℕ × List ℕ → Type 0
Named g = IsTrue (list_all is_regular g.0)

names_put : (ps : List (List ℕ × List ℕ)) (k v : List ℕ) → IsTrue (list_all is_regular k) → All Named ps → All Named (put_pair same_name ps k v)
names_put [] k v h a = All-cons Named (k, v) [] h a
names_put (p ∷ ps) k v h a =
    let first : Named p = All-head Named p ps a in
    let others = All-tail Named p ps a in
    elim (same_name k p.0) as (λ b. All Named (cond b ((p.0, v) ∷ ps) (p ∷ put_pair same_name ps k v))) [
      | true ↦ All-cons Named (p.0, v) ps first others
      | false ↦ All-cons Named p (put_pair same_name ps k v) first (names_put ps k v h others)
    ]

put_within : (v : FontValue) (e : Stated) → HasNames v → Fits v e → HasNames (put v e)
put_within v (plain k t) w h = w
put_within v (encoding form) w h = w
put_within v (code n name) w h = w
put_within v bad_code w h = w
put_within v (size n) w h = w
put_within v (subr n bytes) w h = w
put_within v (glyph name bytes) w h = names_put v.glyphs name bytes h.1 w

start_within : (marks : Marks) → HasNames (value_of marks [])
unfolding value_of
start_within marks = All-nil Named

pub fonts_have_names : FontsHaveNames
fonts_have_names = font_holds HasNames Fits put_within clear_fits private_fits start_within

name_at : (glyphs : List (List ℕ × List ℕ)) (i : ℕ) → All Named glyphs → IsTrue (list_all is_regular (name_in (slice_get glyphs i)))
name_at [] i all = refl
name_at (g ∷ glyphs) zero all = All-head Named g glyphs all
name_at (g ∷ glyphs) (suc i) all = name_at glyphs i (All-tail Named g glyphs all)

pub glyph_named : (font : FontValue) (i : ℕ) → HasNames font → IsTrue (list_all is_regular (glyph_name font i))
glyph_named font i names = name_at font.glyphs i names
