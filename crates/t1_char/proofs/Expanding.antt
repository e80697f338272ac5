-- What a token's effect leads to in the expansion, one lemma an action.
use Rattle.std.proofs.Common.{◌≡◌, ℕ, zero, suc, nat_lt, Bool, true, false, cond, List, [], ◌∷◌, ◌++◌, Option, refl, ap}
use Rattle.t1_font.specs.Fonts.{FontValue}
use Rattle.t1_char.specs.declared.token.CharToken.{CharToken}
use Rattle.t1_char.specs.declared.token.CharToken.TheVariants.{End}
use Rattle.t1_char.specs.Charstrings.{tokens_in}
use Rattle.t1_char.specs.Effects.{State, CalledSubr, Action, goes, calls, returns, finishes, effect, effect_of}
use Rattle.t1_char.specs.Steps.{is_end, effect_at, step_at, run_by, first, only, and_then, expansion}
use Rattle.t1_char.specs.Private.Cursors.{behind_token}

pub run_goes : (font : FontValue) (n : ℕ) (path : List ℕ) (t : CharToken) (ts : List CharToken) (s x : State) → effect_at font path t s ≡ effect x goes
    → expansion font n path (t ∷ ts) s ≡ first (step_at font path t ts s) (expansion font n path ts x)
unfolding expansion
run_goes font zero path t ts s x is =
    ap (λ e. run_by (step_at font path t ts s) e (λ y. expansion font zero path ts y) (λ k code y. expansion font zero path ts y)) is
run_goes font (suc n) path t ts s x is =
    ap (λ e. run_by (step_at font path t ts s) e (λ y. expansion font (suc n) path ts y)
    (λ k code y. and_then (expansion font n (path ++ k ∷ []) (tokens_in font code) y) (λ z. expansion font (suc n) path ts z))) is

pub run_calls : (font : FontValue) (n : ℕ) (path : List ℕ) (t : CharToken) (ts : List CharToken) (s x : State) (number : ℕ) (code : List ℕ)
    → effect_at font path t s ≡ effect x (calls number code) → expansion font (suc n) path (t ∷ ts) s ≡ first (step_at font path t ts s)
    (and_then (expansion font n (path ++ number ∷ []) (tokens_in font code) x) (λ y. expansion font (suc n) path ts y))
unfolding expansion
run_calls font n path t ts s x number code is =
    ap (λ e. run_by (step_at font path t ts s) e (λ y. expansion font (suc n) path ts y)
    (λ k bytes y. and_then (expansion font n (path ++ k ∷ []) (tokens_in font bytes) y) (λ z. expansion font (suc n) path ts z))) is

pub run_returns : (font : FontValue) (n : ℕ) (path : List ℕ) (t : CharToken) (ts : List CharToken) (s x : State) → effect_at font path t s ≡ effect x returns
    → expansion font n path (t ∷ ts) s ≡ only (step_at font path t ts s) false x
unfolding expansion
run_returns font zero path t ts s x is =
    ap (λ e. run_by (step_at font path t ts s) e (λ y. expansion font zero path ts y) (λ k code y. expansion font zero path ts y)) is
run_returns font (suc n) path t ts s x is =
    ap (λ e. run_by (step_at font path t ts s) e (λ y. expansion font (suc n) path ts y)
    (λ k code y. and_then (expansion font n (path ++ k ∷ []) (tokens_in font code) y) (λ z. expansion font (suc n) path ts z))) is

pub run_finishes : (font : FontValue) (n : ℕ) (path : List ℕ) (t : CharToken) (ts : List CharToken) (s x : State) → effect_at font path t s ≡ effect x finishes
    → expansion font n path (t ∷ ts) s ≡ only (step_at font path t ts s) true x
unfolding expansion
run_finishes font zero path t ts s x is =
    ap (λ e. run_by (step_at font path t ts s) e (λ y. expansion font zero path ts y) (λ k code y. expansion font zero path ts y)) is
run_finishes font (suc n) path t ts s x is =
    ap (λ e. run_by (step_at font path t ts s) e (λ y. expansion font (suc n) path ts y)
    (λ k code y. and_then (expansion font n (path ++ k ∷ []) (tokens_in font code) y) (λ z. expansion font (suc n) path ts z))) is

-- The run goes on in this charstring, or in a Subr that it calls.
abbrev pub IsInner : Action → Type 0
IsInner goes = Unit {0}
IsInner (calls number code) = Unit {0}
IsInner returns = ⊥
IsInner finishes = ⊥

ends_out : (b : Bool) → IsInner (cond b returns finishes) → ⊥
ends_out true h = h
ends_out false h = h

-- The end neither goes on nor calls.
pub open_by : (t : CharToken) (named : Option CalledSubr) (depth : ℕ) (s : State) → IsInner (effect_of t named depth s).action → is_end t ≡ false
open_by End named depth s h = absurd (ends_out (nat_lt 0 depth) h)
open_by _ named depth s h = refl

pub behind_open : (t : CharToken) (rest : List CharToken) → is_end t ≡ false → behind_token t rest ≡ rest
behind_open t rest is = ap (λ b. cond b [] rest) is
