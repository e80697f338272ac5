-- Bytes that are read without a break are written token by token.
use Rattle.std.proofs.Common.{◌≡◌, ◌≢◌, ℕ, zero, suc, pos, neg_ℤ, ◌-ℤ◌, ◌+◌, ◌-◌, ◌*◌, ◌<◌, ◌≤◌, ◌++◌, ◌⊎◌, inl, inr, Bool, true, false, eqb, ltb, List, [], ◌∷◌, length, length-drop, drop, refl, ap, sym, subst, ◌∙◌, lt-ltb, arith}
use Rattle.t1_char.specs.declared.token.CharToken.{CharToken}
use Rattle.t1_char.specs.declared.token.CharToken.TheVariants.{Number, Cut, End}
use Rattle.t1_char.specs.Commands.{command_of, escaped_of}
use Rattle.t1_char.specs.Tokens.{Form, whole, two, form_of, plain_code, completed, more_in, token_at, more_of, tokens_behind, tokens_of, charstring_tokens}
use Rattle.t1_char.specs.Laws.Written.{AreBytes, AreWhole, AreWritten, nothing_left, then, IsWritten, ReadIsWritten}
use Rattle.t1_char.proofs.ReadBack.{IsSpelled, plain_back, escape_back, small_back, positive_back, negative_back, long_back}
use Rattle.t1_char.proofs.Skipping.{tokens_behind_is}
use Rattle.t1_char.proofs.Spelling.{form_small, form_positive, form_negative}

pub below : (a b : ℕ) → (a < b) ⊎ (b ≤ a)
below a b = by_test (ltb a b) refl
  where
    by_test : (x : Bool) → ltb a b ≡ x → (a < b) ⊎ (b ≤ a)
    by_test true h = inl (grind arith)
    by_test false h = inr (grind arith)

abbrev pub AreFit : List ℕ → Type 0
AreFit [] = Unit {0}
AreFit (b ∷ bytes) = (b < 256) × AreFit bytes

pub fit_of : (bytes : List ℕ) → AreBytes bytes → AreFit bytes
fit_of [] all = tt
fit_of (b ∷ bytes) all = (all 0 b (omega arith), fit_of bytes (λ k d lt. all (suc k) d (omega arith)))

pub fit_drop : (n : ℕ) (bytes : List ℕ) → AreFit bytes → AreFit (drop n bytes)
fit_drop zero bytes fit = fit
fit_drop (suc n) [] fit = tt
fit_drop (suc n) (b ∷ bytes) fit = fit_drop n bytes fit.1

abbrev pub AreUncut : List CharToken → Type 0
AreUncut [] = Unit {0}
AreUncut (t ∷ ts) = (t ≢ Cut) × AreUncut ts

pub uncut_of : (ts : List CharToken) → AreWhole ts → AreUncut ts
uncut_of [] all = tt
uncut_of (t ∷ ts) all = (all 0 t (omega arith), uncut_of ts (λ k d lt. all (suc k) d (omega arith)))

-- By the form of the first byte.
abbrev pub Spells : ℕ → List ℕ → Type 0
Spells v rest = IsSpelled v rest (token_at v rest) (drop (more_of v) rest)

by_form : (v : ℕ) (rest : List ℕ) (f : Form) → form_of v ≡ f → IsSpelled v rest (completed f rest) (drop (more_in f) rest) → Spells v rest
by_form v rest f is spelled = subst (λ g. IsSpelled v rest (completed g rest) (drop (more_in g) rest)) (sym is) spelled

spelled_escape : (rest : List ℕ) → token_at 12 rest ≢ Cut → Spells 12 rest
spelled_escape [] uncut = absurd (uncut refl)
spelled_escape (w ∷ rest) uncut = escape_back w rest (escaped_of w) refl

spelled_low : (v : ℕ) (rest : List ℕ) → v < 32 → token_at v rest ≢ Cut → Spells v rest
spelled_low v rest low uncut = by_test (eqb v 12) refl
  where
    by_test : (x : Bool) → eqb v 12 ≡ x → Spells v rest
    by_test true is =
        let same : 12 ≡ v = grind arith in
        subst (λ x. token_at x rest ≢ Cut → Spells x rest) same (spelled_escape rest) uncut
    by_test false is =
        let other : v ≢ 12 = grind arith in
        by_form v rest (whole (plain_code v (command_of v))) (rw (lt-ltb v 32 low, is) refl) (plain_back v rest (command_of v) low other refl)

spelled_positive : (v : ℕ) (rest : List ℕ) → 247 ≤ v → v < 251 → AreFit rest → token_at v rest ≢ Cut → Spells v rest
spelled_positive v [] low high fit uncut = absurd (uncut (ap (λ f. completed f []) (form_positive v low high)))
spelled_positive v (w ∷ rest) low high fit uncut =
    by_form v (w ∷ rest) (two (λ x. Number (pos ((v - 247) * 256 + x + 108)))) (form_positive v low high) (positive_back v w rest low high fit.0)

spelled_negative : (v : ℕ) (rest : List ℕ) → 251 ≤ v → v < 255 → AreFit rest → token_at v rest ≢ Cut → Spells v rest
spelled_negative v [] low high fit uncut = absurd (uncut (ap (λ f. completed f []) (form_negative v low high)))
spelled_negative v (w ∷ rest) low high fit uncut =
    by_form v (w ∷ rest) (two (λ x. Number (neg_ℤ (pos ((v - 251) * 256 + x + 108))))) (form_negative v low high) (negative_back v w rest low high fit.0)

spelled_long : (rest : List ℕ) → AreFit rest → token_at 255 rest ≢ Cut → Spells 255 rest
spelled_long [] fit uncut = absurd (uncut refl)
spelled_long (a ∷ []) fit uncut = absurd (uncut refl)
spelled_long (a ∷ b ∷ []) fit uncut = absurd (uncut refl)
spelled_long (a ∷ b ∷ c ∷ []) fit uncut = absurd (uncut refl)
spelled_long (a ∷ b ∷ c ∷ d ∷ rest) fit uncut = long_back a b c d rest fit.0 fit.1.0 fit.1.1.0 fit.1.1.1.0

pub spelled_at : (v : ℕ) (rest : List ℕ) → v < 256 → AreFit rest → token_at v rest ≢ Cut → Spells v rest
spelled_at v rest byte fit uncut =
    elim (below v 32) [
      | inl low ↦ spelled_low v rest low uncut
      | inr low ↦ elim (below v 247) [
        | inl high ↦ by_form v rest (whole (Number (pos v -ℤ pos 139))) (form_small v low high) (small_back v rest low high)
        | inr more ↦ elim (below v 251) [
          | inl high ↦ spelled_positive v rest more high fit uncut
          | inr most ↦ elim (below v 255) [
            | inl high ↦ spelled_negative v rest most high fit uncut
            | inr all ↦
                let same : 255 ≡ v = omega arith in
                subst (λ x. token_at x rest ≢ Cut → Spells x rest) same (spelled_long rest fit) uncut
          ]
        ]
      ]
    ]

-- A charstring has a token at least, its end.
tokens_some : (n : ℕ) (s : List ℕ) → tokens_behind n s ≡ [] → ⊥
unfolding tokens_behind
tokens_some n [] h = cc
tokens_some (suc n) (b ∷ s) h = tokens_some n s h
tokens_some zero (v ∷ s) h = cc

pub head_same : (t u : CharToken) (ts us : List CharToken) → t ∷ ts ≡ u ∷ us → t ≡ u
head_same t u ts us h = cc

pub tail_same : (t u : CharToken) (ts us : List CharToken) → t ∷ ts ≡ u ∷ us → ts ≡ us
tail_same t u ts us h = cc

not_more : (ts : List CharToken) → [] ≡ ts ++ End ∷ [] → ⊥
not_more [] h = cc
not_more (t ∷ ts) h = cc

back : (most : ℕ) (bytes : List ℕ) (ts : List CharToken) → length bytes ≤ most → AreFit bytes → AreUncut ts → tokens_of bytes ≡ ts ++ End ∷ []
    → AreWritten ts bytes
unfolding tokens_behind
back most [] [] short fit uncut is = nothing_left
back most [] (t ∷ ts) short fit uncut is = absurd (not_more ts (tail_same End t [] (ts ++ End ∷ []) is))
back zero (v ∷ rest) ts short fit uncut is = absurd (omega arith)
back (suc most) (v ∷ rest) [] short fit uncut is =
    absurd (tokens_some (more_of v) rest (tail_same (token_at v rest) End (tokens_behind (more_of v) rest) [] is))
back (suc most) (v ∷ rest) (t ∷ ts) short fit uncut is =
    let same : token_at v rest ≡ t = head_same (token_at v rest) t (tokens_behind (more_of v) rest) (ts ++ End ∷ []) is in
    let left : List ℕ = drop (more_of v) rest in
    let spelled : Spells v rest = spelled_at v rest fit.0 fit.1 (λ cut. uncut.0 (sym same ∙ cut)) in
    let behind : AreWritten ts left =
    back most left ts (omega (arith, length-drop (more_of v) rest)) (fit_drop (more_of v) rest fit.1) uncut.1
    (sym (tokens_behind_is (more_of v) rest) ∙ tail_same (token_at v rest) t (tokens_behind (more_of v) rest) (ts ++ End ∷ []) is) in
    subst (λ l. AreWritten (t ∷ ts) l) (sym spelled.split)
    (then t spelled.front ts left (subst (λ u. IsWritten u spelled.front) same spelled.written) behind)

pub read_is_written : ReadIsWritten
unfolding charstring_tokens
read_is_written n ts bytes fit uncut is = back (length bytes) bytes ts (omega arith) (fit_of bytes fit) (uncut_of ts uncut) is
