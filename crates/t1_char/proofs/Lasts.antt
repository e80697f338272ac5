-- Whether a token is its charstring's last, from the first two tokens after it.
use Rattle.std.proofs.Common.{◌≡◌, ℕ, ◌<◌, nat_lt, Bool, true, false, ◌&&◌, List, [], ◌∷◌, refl, ap, ◌∙◌, cond, lt-ltb}
use Rattle.t1_char.specs.declared.token.CharToken.{CharToken}
use Rattle.t1_char.specs.Steps.{is_end, is_return, is_last}
use Rattle.t1_char.specs.Private.Cursors.{behind_token}

and_false : (a b : Bool) → b ≡ false → (a && b) ≡ false
and_false true b h = h
and_false false b h = refl

-- Something follows that isn't the end, and the charstring can't return there.
no_more : (depth : ℕ) (t : CharToken) (rest : List CharToken) → is_end t ≡ false → (nat_lt 0 depth && is_return t) ≡ false → is_last depth (t ∷ rest) ≡ false
no_more depth t [] goes_on no_return = goes_on
no_more depth t (u ∷ []) goes_on no_return = ap (λ b. b && is_end u) no_return
no_more depth t (u ∷ v ∷ rest) goes_on no_return = refl

-- The next token: it is the end; it isn't, in the glyph itself; it is neither the end nor a return.
pub last_at_end : (depth : ℕ) (token t : CharToken) (left rest : List CharToken) → is_end token ≡ false → left ≡ t ∷ behind_token t rest → is_end t ≡ true
    → is_last depth (behind_token token left) ≡ true
last_at_end depth token t left rest goes_on is ends =
    ap (λ b. is_last depth (cond b [] left)) goes_on ∙ ap (is_last depth) is ∙ ap (λ b. is_last depth (t ∷ cond b [] rest)) ends ∙ ends

pub last_in_glyph : (depth : ℕ) (token t : CharToken) (left rest : List CharToken) → is_end token ≡ false → left ≡ t ∷ behind_token t rest → is_end t ≡ false
    → depth ≡ 0 → is_last depth (behind_token token left) ≡ false
last_in_glyph depth token t left rest goes_on is more no_depth =
    ap (λ b. is_last depth (cond b [] left)) goes_on ∙ ap (is_last depth) is
    ∙ no_more depth t (behind_token t rest) more (ap (λ d. nat_lt 0 d && is_return t) no_depth)

pub last_before_other : (depth : ℕ) (token t : CharToken) (left rest : List CharToken) → is_end token ≡ false → left ≡ t ∷ behind_token t rest
    → is_end t ≡ false → is_return t ≡ false → is_last depth (behind_token token left) ≡ false
last_before_other depth token t left rest goes_on is more no_return =
    ap (λ b. is_last depth (cond b [] left)) goes_on ∙ ap (is_last depth) is
    ∙ no_more depth t (behind_token t rest) more (and_false (nat_lt 0 depth) (is_return t) no_return)

-- A return in a Subr, and what follows it.
two_tokens : (depth : ℕ) (t u : CharToken) (rest : List CharToken) → is_end t ≡ false → (nat_lt 0 depth && is_return t) ≡ true
    → is_last depth (t ∷ u ∷ behind_token u rest) ≡ is_end u
two_tokens depth t u rest more returns = two_by (is_end u) refl rest
  where
    two_by : (b : Bool) → is_end u ≡ b → (rest : List CharToken) → is_last depth (t ∷ u ∷ cond b [] rest) ≡ b
    two_by true e rest = ap (λ r. r && is_end u) returns ∙ e
    two_by false e [] = ap (λ r. r && is_end u) returns ∙ e
    two_by false e (v ∷ rest) = refl

pub last_behind_return : (depth : ℕ) (token t u : CharToken) (left rest more_left : List CharToken) → is_end token ≡ false → left ≡ t ∷ behind_token t rest
    → is_end t ≡ false → 0 < depth → is_return t ≡ true → rest ≡ u ∷ behind_token u more_left → is_last depth (behind_token token left) ≡ is_end u
last_behind_return depth token t u left rest more_left goes_on is more deep returns then =
    ap (λ b. is_last depth (cond b [] left)) goes_on ∙ ap (is_last depth) is
    ∙ ap (λ b. is_last depth (t ∷ cond b [] rest)) more
    ∙ ap (λ r. is_last depth (t ∷ r)) then
    ∙ two_tokens depth t u more_left more (ap (λ b. b && is_return t) (lt-ltb 0 depth deep) ∙ returns)
