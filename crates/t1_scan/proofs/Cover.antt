-- The tokens of a text cover it but for blanks and comments, and each takes a byte or more.
use Rattle.std.proofs.Common.{◌≡◌, ◌+◌, ◌==◌, ◌<◌, ◌≤◌, ℕ, suc, Bool, true, false, ◌||◌, if◌then◌else◌, Option, Some, None, Ok, List, [], ◌∷◌, ◌++◌, length, drop, take, not, subst, inl, inr, refl, sym, ap, ◌∙◌, arith, length-drop, length-take}
use Rattle.std.proofs.lemmas.Bool.{cases_Bool, or_parts}
use Rattle.std.proofs.lemmas.List.{take-append-drop, take_all}
use Rattle.t1_scan.specs.Bytes.{is_blank, is_regular}
use Rattle.t1_scan.specs.Lengths.{further, is_comment_after, blank_len, string_len, angle_len, part_len, inside_len, token_len}
use Rattle.t1_scan.specs.Tokens.{Found, kind_of, cut, first_of, token_of}
use Rattle.t1_scan.specs.Laws.{Covers, TakesBytes}
use Rattle.t1_scan.specs.Texts.{is_gap, are_blanks}

-- where there is a length, it is 1 or more
abbrev IsSomeLength : Option ℕ → Type 0
IsSomeLength None = Unit {0}
IsSomeLength (Some n) = 1 ≤ n

either : (b : Bool) (x y : Option ℕ) → IsSomeLength x → IsSomeLength y → IsSomeLength (if b then x else y)
either true x y p q = p
either false x y p q = q

beyond : (o : Option ℕ) → IsSomeLength (further 1 o)
beyond None = tt
beyond (Some n) = omega arith

part_some : (b : ℕ) (s : List ℕ) → IsSomeLength (part_len b s)
unfolding part_len
part_some b s =
    either (b == 37) _ _ (omega arith) (either (b == 40) _ _ (beyond (string_len false 1 s)) (either (b == 60) _ _ (beyond (angle_len s)) (omega arith)))

token_some : (b : ℕ) (s : List ℕ) → IsSomeLength (token_len b s)
unfolding token_len
token_some b s =
    either (b == 47) _ _ (omega arith)
    (either (b == 91) _ _ (beyond (inside_len 0 1 0 s))
    (either (b == 123) _ _ (beyond (inside_len 0 0 1 s))
    (either (b == 62) _ _ (omega arith)
    (either (is_regular b) _ _ (omega arith) (part_some b s)))))

-- where a token was cut off
record IsCutOff (s : List ℕ) (found : Found) (n : ℕ) : Type 0 where
  text : found.text ≡ take n s
  rest : found.rest ≡ drop n s
  some : 1 ≤ n
  front : 1 ≤ length s

cut_is : (b : ℕ) (s : List ℕ) (o : Option ℕ) (found : Found) → IsSomeLength o → cut (b ∷ s) o ≡ Ok (Some found) → (n : ℕ) × IsCutOff (b ∷ s) found n
cut_is b s None found some h = cc
cut_is b s (Some n) found some h =
    let e : record { kind = kind_of (take n (b ∷ s)); text = take n (b ∷ s); rest = drop n (b ∷ s) } ≡ found = cc in
    (n, record { text = ap (λ f. f.text) (sym e); rest = ap (λ f. f.rest) (sym e); some = some; front = omega arith })

first_is : (s : List ℕ) (found : Found) → first_of s ≡ Ok (Some found) → (n : ℕ) × IsCutOff s found n
first_is [] found h = cc
first_is (b ∷ s) found h = cut_is b s (token_len b s) found (token_some b s) h

-- what was read is what is there
joined : (s : List ℕ) (found : Found) (n : ℕ) → IsCutOff s found n → s ≡ found.text ++ found.rest
joined s found n h = let e = take-append-drop n s in cc

blanks_front : (c : Bool) (s : List ℕ) → are_blanks c (take (blank_len c s) s) ≡ true
unfolding blank_len
blanks_front c [] = refl
blanks_front c (b ∷ s) =
    let test = c || (is_blank b || b == 37) in
    let n = blank_len (is_comment_after c b) s in
    let ih = blanks_front (is_comment_after c b) s in
    elim test as (λ x. test ≡ x → are_blanks c (take (if x then 1 + n else 0) (b ∷ s)) ≡ true) [
      | true ↦ λ e. (let more : 1 + n ≡ suc n = omega arith in rw (more, e, ih) refl)
      | false ↦ λ e. refl
    ] refl

-- where blanks and comments end before a byte
pub record EndsBefore (c : Bool) (s : List ℕ) (b : ℕ) : Type 0 where
  pub gap : is_gap c (take (blank_len c s) s) ≡ true
  pub starts : not (is_blank b || b == 37) ≡ true

pub gap_front : (c : Bool) (s : List ℕ) (b : ℕ) (u : List ℕ) → drop (blank_len c s) s ≡ b ∷ u → EndsBefore c s b
unfolding blank_len
gap_front c [] b u h = cc
gap_front c (x ∷ s) b u h =
    let test = c || (is_blank x || x == 37) in
    let n = blank_len (is_comment_after c x) s in
    let P : Bool → Type 0 = λ y. drop (if y then 1 + n else 0) (x ∷ s) ≡ b ∷ u in
    elim (cases_Bool test) [
      | inl e ↦
          (let more : 1 + n ≡ suc n = omega arith in
          let later : drop (suc n) (x ∷ s) ≡ b ∷ u = rw (e, more) at h in
          let ih = gap_front (is_comment_after c x) s b u later in
          record { gap = rw (e, more) (rw (e, ih.gap) refl); starts = ih.starts })
      | inr e ↦
          (let here : x ∷ s ≡ b ∷ u = rw e at h in
          let same : x ≡ b = cc in
          let parts = or_parts c (is_blank x || x == 37) e in
          record { gap = rw e (rw parts.0 refl); starts = subst (λ y. not (is_blank y || y == 37) ≡ true) same (rw parts.1 refl) })
    ]

first_byte : (s : List ℕ) → 1 ≤ length s → (b : ℕ) × (u : List ℕ) × (s ≡ b ∷ u)
first_byte [] h = absurd (omega arith)
first_byte (b ∷ u) h = (b, u, refl)

cut_some : (b : ℕ) (s : List ℕ) (o : Option ℕ) → cut (b ∷ s) o ≡ Ok None → ⊥
cut_some b s None h = cc
cut_some b s (Some n) h = cc

first_none : (s : List ℕ) → first_of s ≡ Ok None → s ≡ []
first_none [] h = refl
first_none (b ∷ s) h = absurd (cut_some b s (token_len b s) h)

pub all_blanks : (s : List ℕ) → token_of s ≡ Ok None → are_blanks false s ≡ true
all_blanks s h =
    let none = first_none (drop (blank_len false s) s) h in
    let past : length s ≤ blank_len false s = omega (arith, ap length none, length-drop (blank_len false s) s) in
    ap (are_blanks false) (sym (take_all (blank_len false s) s past)) ∙ blanks_front false s

pub covers : Covers
covers s [] h = all_blanks s h
covers s (t ∷ ts) h =
    let gap = blank_len false s in
    let p = first_is (drop gap s) (record { kind = t.kind; text = t.text; rest = h.0 }) h.1 in (
      take gap s,
      h.0,
      sym (take-append-drop gap s)
          ∙ ap (λ r. take gap s ++ r) (joined (drop gap s) (record { kind = t.kind; text = t.text; rest = h.0 }) p.0 p.1),
      (let front = first_byte (drop gap s) p.1.front in (gap_front false s front.0 front.1 front.2).gap),
      covers h.0 ts h.2,
    )

-- a token that was read is a byte or more, and leaves less
pub record Shortens (s : List ℕ) (found : Found) : Type 0 where
  pub some : 1 ≤ length found.text
  pub shorter : length found.rest < length s

pub shortens : (s : List ℕ) (found : Found) → token_of s ≡ Ok (Some found) → Shortens s found
shortens s found h =
    let gap = blank_len false s in
    let p = first_is (drop gap s) found h in
    let text : length found.text ≡ length (take p.0 (drop gap s)) = ap length p.1.text in
    let rest : length found.rest ≡ length (drop p.0 (drop gap s)) = ap length p.1.rest in
    record {
      some = omega (arith, text, p.1.some, p.1.front, length-take p.0 (drop gap s));
      shorter = omega (arith, rest, p.1.some, p.1.front, length-drop p.0 (drop gap s), length-drop gap s);
    }

pub takes_bytes : TakesBytes
takes_bytes s [] h = (tt, omega arith)
takes_bytes s (t ∷ ts) h =
    let less = shortens s (record { kind = t.kind; text = t.text; rest = h.0 }) h.1 in
    let more = takes_bytes h.0 ts h.2 in
    ((less.some, more.0), omega (arith, less.shorter, more.1))
