-- One step of each recursion over what is left of a text.
use Rattle.std.proofs.Common.{◌≡◌, ◌+◌, ◌-◌, ◌==◌, ◌<◌, ◌≤◌, ℕ, zero, suc, Bool, true, false, ◌&&◌, ◌||◌, not, if◌then◌else◌, Option, Some, None, option_and_then, List, [], ◌∷◌, length, drop, get_or, nat_lt, refl, sym, ap, ◌∙◌, arith, length-drop}
use Rattle.std.proofs.lemmas.List.{at_drop_more, at_drop_all, drop-drop}
use Rattle.std.proofs.lemmas.Bool.Decides.{nat_tests}
use Rattle.t1_scan.specs.Bytes.{is_blank}
use Rattle.t1_scan.specs.Lengths.{further, is_comment_after, depth_after, arrays_after, braces_after, blank_len, string_len, close_len, part_len, inside_len}

pub blank_more : (s : List ℕ) (at : ℕ) (c : Bool) → at < length s
    → blank_len c (drop at s) ≡ (if c || (is_blank (get_or s at 0) || get_or s at 0 == 37) then 1 + blank_len
    (is_comment_after c (get_or s at 0)) (drop (at + 1) s) else 0)
unfolding blank_len
blank_more s at c h = at_drop_more (blank_len c) s at 0 h

pub blank_end : (s : List ℕ) (at : ℕ) (c : Bool) → length s ≤ at → blank_len c (drop at s) ≡ 0
unfolding blank_len
blank_end s at c h = at_drop_all (blank_len c) s at h

-- n further, and m more
pub further_more : (n m : ℕ) (o : Option ℕ) → further n (further m o) ≡ further (n + m) o
further_more n m None = refl
further_more n m (Some k) = ap Some (omega arith)

pub further_zero : (o : Option ℕ) → further 0 o ≡ o
further_zero None = refl
further_zero (Some k) = ap Some (omega arith)

pub string_more : (s : List ℕ) (at : ℕ) (e : Bool) (n : ℕ) → at < length s → further at (string_len e n (drop at s))
    ≡ (if depth_after e (get_or s at 0) n == 0 then Some (at + 1) else further (at + 1)
    (string_len (not e && get_or s at 0 == 92) (depth_after e (get_or s at 0) n) (drop (at + 1) s)))
unfolding string_len
string_more s at e n h =
    rw (at_drop_more (string_len e n) s at 0 h)
    (elim (depth_after e (get_or s at 0) n == 0) as
    (λ b. further at (if b then Some 1 else further 1 (string_len (not e && get_or s at 0 == 92) (depth_after e (get_or s at 0) n) (drop (at + 1) s)))
    ≡ (if b then Some (at + 1) else further (at + 1) (string_len (not e && get_or s at 0 == 92) (depth_after e (get_or s at 0) n) (drop (at + 1) s)))) [
      | true ↦ refl
      | false ↦ further_more at 1 _
    ])

pub string_end : (s : List ℕ) (at : ℕ) (e : Bool) (n : ℕ) → length s ≤ at → further at (string_len e n (drop at s)) ≡ None
unfolding string_len
string_end s at e n h = ap (further at) (at_drop_all (string_len e n) s at h)

pub close_more : (s : List ℕ) (at : ℕ) → at < length s → further at (close_len (drop at s))
    ≡ (if get_or s at 0 == 62 then Some (at + 1) else further (at + 1) (close_len (drop (at + 1) s)))
unfolding close_len
close_more s at h =
    rw (at_drop_more close_len s at 0 h)
    (elim (get_or s at 0 == 62) as (λ b. further at (if b then Some 1 else further 1 (close_len (drop (at + 1) s)))
    ≡ (if b then Some (at + 1) else further (at + 1) (close_len (drop (at + 1) s)))) [
      | true ↦ refl
      | false ↦ further_more at 1 _
    ])

pub close_end : (s : List ℕ) (at : ℕ) → length s ≤ at → further at (close_len (drop at s)) ≡ None
unfolding close_len
close_end s at h = ap (further at) (at_drop_all close_len s at h)

-- the bytes that are skipped
pub passed_over : (n a p : ℕ) (s : List ℕ) → n ≤ length s → inside_len n a p s ≡ further n (inside_len 0 a p (drop n s))
unfolding inside_len
passed_over zero a p s h = sym (further_zero (inside_len 0 a p s))
passed_over (suc n) a p [] h = absurd (omega arith)
passed_over (suc n) a p (b ∷ s) h =
    let ih = passed_over n a p s (omega arith) in
    let e : 1 + n ≡ suc n = omega arith in
    ap (further 1) ih ∙ further_more 1 n (inside_len 0 a p (drop n s)) ∙ ap (λ k. further k (inside_len 0 a p (drop n s))) e

-- what one byte leaves open
pub record IsOpenAfter (s : List ℕ) (at a p a' p' : ℕ) : Type 0 where
  pub within : at < length s
  pub arrays : a' ≡ arrays_after (get_or s at 0) a p
  pub braces : p' ≡ braces_after (get_or s at 0) p

pub inside_step : {s : List ℕ} {at a p a' p' : ℕ} → IsOpenAfter s at a p a' p' → inside_len 0 a p (drop at s)
    ≡ (if a' + p' == 0 then Some 1 else (if nat_lt 32 (a' + p') then None else option_and_then (λ n. further 1 (inside_len (n - 1) a' p' (drop (at + 1) s)))
    (part_len (get_or s at 0) (drop (at + 1) s))))
unfolding inside_len
inside_step {s} {at} {a} {p} h = rw (h.arrays, h.braces) (at_drop_more (inside_len 0 a p) s at 0 h.within)

pub inside_close : {s : List ℕ} {at a p a' p' : ℕ} → IsOpenAfter s at a p a' p' → a' + p' ≡ 0 → further at (inside_len 0 a p (drop at s)) ≡ Some (at + 1)
inside_close h e = rw (inside_step h, e) refl

pub inside_deep : {s : List ℕ} {at a p a' p' : ℕ} → IsOpenAfter s at a p a' p' → 32 < a' + p' → further at (inside_len 0 a p (drop at s)) ≡ None
inside_deep {s} {at} {a} {p} {a'} {p'} h deep =
    let nonzero : (a' + p' == 0) ≡ false = grind (arith, nat_tests) in
    let true_lt : nat_lt 32 (a' + p') ≡ true = grind (arith, nat_tests) in
    rw (inside_step h, nonzero, true_lt) refl

pub inside_unclosed : {s : List ℕ} {at a p a' p' : ℕ} → IsOpenAfter s at a p a' p' → part_len (get_or s at 0) (drop (at + 1) s) ≡ None → 0 < a' + p'
    → further at (inside_len 0 a p (drop at s)) ≡ None
inside_unclosed {s} {at} {a} {p} {a'} {p'} h is some =
    let nonzero : (a' + p' == 0) ≡ false = grind (arith, nat_tests) in
    rw (inside_step h, nonzero, is) (elim (nat_lt 32 (a' + p')) as (λ b. further at (if b then None else None) ≡ None) [ true ↦ refl | false ↦ refl ])

-- an array or a procedure goes on after a part
pub inside_more : {s : List ℕ} {at a p a' p' : ℕ} → IsOpenAfter s at a p a' p' → (n : ℕ) → part_len (get_or s at 0) (drop (at + 1) s) ≡ Some n → 0 < a' + p'
    → a' + p' ≤ 32 → 1 ≤ n → at + n ≤ length s →
    further at (inside_len 0 a p (drop at s)) ≡ further (at + n) (inside_len 0 a' p' (drop (at + n) s))
inside_more {s} {at} {a} {p} {a'} {p'} h n is some shallow one bound =
    let nonzero : (a' + p' == 0) ≡ false = grind (arith, nat_tests) in
    let false_lt : nat_lt 32 (a' + p') ≡ false = grind (arith, nat_tests) in
    let over = passed_over (n - 1) a' p' (drop (at + 1) s) (omega (arith, length-drop (at + 1) s)) in
    let places : (at + 1) + (n - 1) ≡ at + n = omega arith in
    let all : at + (1 + (n - 1)) ≡ at + n = omega arith in
    rw (
      inside_step h,
      nonzero,
      false_lt,
      is,
      over,
      drop-drop (n - 1) (at + 1) s,
      places,
      further_more 1 (n - 1) (inside_len 0 a' p' (drop (at + n) s)),
      further_more at (1 + (n - 1)) (inside_len 0 a' p' (drop (at + n) s)),
      all,
    ) refl

pub inside_end : (s : List ℕ) (at a p : ℕ) → length s ≤ at → further at (inside_len 0 a p (drop at s)) ≡ None
unfolding inside_len
inside_end s at a p h = ap (further at) (at_drop_all (inside_len 0 a p) s at h)
