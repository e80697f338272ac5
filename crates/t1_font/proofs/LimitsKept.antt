-- The value of all that a text states is within the limits, since each turn states what is.
use Rattle.std.proofs.Common.{◌≡◌, ◌<◌, ◌≤◌, ℕ, true, false, cond, None, List, [], ◌∷◌, nat_eq, refl, arith}
use Rattle.std.proofs.lemmas.Bool.Decides.{nat_tests}
use Rattle.std.proofs.lemmas.List.Elements.{All-nil, All-cons, All-head, All-tail}
use Rattle.std.specs.List.{All}
use Rattle.std.specs.Map.{lookup}
use Rattle.t1_font.specs.Fonts.{Stated, Marks, FontValue, plain, encoding, code, bad_code, size, subr, glyph, value_of}
use Rattle.t1_font.specs.Puts.{put, put_pair}
use Rattle.t1_font.specs.Laws.Limits.{IsWithinLimits, ReadWithinLimits, FontsWithinLimits, NothingPastTheEnd}
use Rattle.t1_font.proofs.Room.{room_put}
use Rattle.t1_font.proofs.Kept.{read_holds, font_holds}
use Rattle.t1_font.proofs.TurnsWithin.{Fits, clear_fits, private_fits}

-- A pair more.
keys_put : {V : Type 0} (P : ℕ → Type 0) (ps : List (ℕ × V)) (k : ℕ) (v : V) → P k → All (λ p. P p.0) ps → All (λ p. P p.0) (put_pair nat_eq ps k v)
keys_put P [] k v h a = All-cons (λ p. P p.0) (k, v) [] h a
keys_put P (p ∷ ps) k v h a =
    let first : P p.0 = All-head (λ p. P p.0) p ps a in
    let others = All-tail (λ p. P p.0) p ps a in
    elim (nat_eq k p.0) as (λ b. All (λ p. P p.0) (cond b ((p.0, v) ∷ ps) (p ∷ put_pair nat_eq ps k v))) [
      | true ↦ All-cons (λ p. P p.0) (p.0, v) ps first others
      | false ↦ All-cons (λ p. P p.0) p (put_pair nat_eq ps k v) first (keys_put P ps k v h others)
    ]

-- A statement more.
put_within : (v : FontValue) (e : Stated) → IsWithinLimits v → Fits v e → IsWithinLimits (put v e)
put_within v (plain k t) w h = record { codes = w.codes; subrs = w.subrs; glyphs = w.glyphs; size = w.size }
put_within v (encoding form) w h = record { codes = All-nil (λ p. p.0 < 256); subrs = w.subrs; glyphs = w.glyphs; size = w.size }
put_within v (code n name) w h = record { codes = keys_put (λ i. i < 256) v.codes n name h w.codes; subrs = w.subrs; glyphs = w.glyphs; size = w.size }
put_within v bad_code w h = record { codes = w.codes; subrs = w.subrs; glyphs = w.glyphs; size = w.size }
put_within v (size n) w h = record { codes = w.codes; subrs = w.subrs; glyphs = w.glyphs; size = h }
put_within v (subr n bytes) w h = record { codes = w.codes; subrs = keys_put (λ i. i < 65535) v.subrs n bytes h w.subrs; glyphs = w.glyphs; size = w.size }
put_within v (glyph name bytes) w h = record { codes = w.codes; subrs = w.subrs; glyphs = room_put v.glyphs name bytes w.glyphs h.0; size = w.size }

-- Of nothing the value is within the limits.
start_within : (marks : Marks) → IsWithinLimits (value_of marks [])
unfolding value_of
start_within marks = record { codes = All-nil (λ p. p.0 < 256); subrs = All-nil (λ p. p.0 < 65535); glyphs = omega arith; size = tt }

pub read_within_limits : ReadWithinLimits
read_within_limits = read_holds IsWithinLimits Fits put_within clear_fits private_fits start_within

pub fonts_within_limits : FontsWithinLimits
fonts_within_limits = font_holds IsWithinLimits Fits put_within clear_fits private_fits start_within

-- A key past the limit is not among keys within it.
none_past : {V : Type 0} (limit : ℕ) (ps : List (ℕ × V)) (n : ℕ) → All (λ p. p.0 < limit) ps → limit ≤ n → lookup (nat_eq n) ps ≡ None
none_past limit [] n a h = refl
none_past limit (p ∷ ps) n a h =
    let less : p.0 < limit = All-head (λ p. p.0 < limit) p ps a in
    let other : nat_eq n p.0 ≡ false = grind (arith, nat_tests, less, h) in
    rw other (none_past limit ps n (All-tail (λ p. p.0 < limit) p ps a) h)

pub nothing_past_the_end : NothingPastTheEnd
nothing_past_the_end v n w = (none_past 256 v.codes n w.codes, none_past 65535 v.subrs n w.subrs)
