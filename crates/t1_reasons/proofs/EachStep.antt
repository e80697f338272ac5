-- What holds of each step of a glyph, by its token and those behind it in its charstring.
use Rattle.std.proofs.Common.{◌≡◌, ◌&&◌, ◌-◌, ℕ, zero, suc, nat_lt, Bool, true, false, cond, Option, Some, None, List, [], ◌∷◌, ◌++◌, length, length-append, slice_get, arith, refl, sym, ap, subst, ◌∙◌}
use Rattle.std.specs.Prelude.{if◌then◌else◌}
use Rattle.std.specs.List.{AllByRecursion}
use Rattle.t1_font.specs.Fonts.{FontValue}
use Rattle.t1_char.specs.declared.token.CharToken.{CharToken}
use Rattle.t1_char.specs.declared.token.CharToken.TheVariants.{Command, End}
use Rattle.t1_char.specs.Charstrings.{code_at, subr_in, tokens_in}
use Rattle.t1_char.specs.Effects.{State, CalledSubr, Action, Work, goes, calls, returns, finishes, clears, finishes_glyph, divides, calls_subr, returns_back, calls_othersubr, pops, does_finish, effect_of, is_finishing, most_calls, work_of, working}
use Rattle.t1_char.specs.Numbers.{natural}
use Rattle.t1_char.specs.Stacks.{from_top}
use Rattle.t1_char.specs.Steps.{Run, StepView, after, and_then, at_start, effect_at, expansion, is_callsubr, led_to, named_at, step_at, steps_of, subr_of, with_code}
use Rattle.t1_reasons.specs.CharstringReasons.{charstring_at}

pub all_append : {A : Type 0} (P : A → Type 0) (xs ys : List A) → AllByRecursion P xs → AllByRecursion P ys → AllByRecursion P (xs ++ ys)
all_append P [] ys xs_all ys_all = ys_all
all_append P (x ∷ xs) ys xs_all ys_all = (xs_all.0, all_append P xs ys xs_all.1 ys_all)

-- ---- what a token does

work_ends : (w : Work) (named : Option CalledSubr) (depth : ℕ) (s : State) → does_finish w ≡ true → (working w named depth s).action ≡ finishes
work_ends finishes_glyph named depth s is = refl
work_ends _ named depth s is = let no : false ≡ true = is in cc

token_ends : (t : CharToken) (named : Option CalledSubr) (depth : ℕ) (s : State) → is_finishing t ≡ true → (effect_of t named depth s).action ≡ finishes
token_ends (Command command) named depth s is = work_ends (work_of command) named depth s is
token_ends _ named depth s is = let no : false ≡ true = is in cc

-- The Subr that is called is the one that is named.
abbrev IsNamed : Option CalledSubr → ℕ → List ℕ → Type 0
IsNamed None number code = ⊥
IsNamed (Some subr) number code = (subr.number ≡ number) × (subr.code ≡ code)

call_is : (b : Bool) (subr : CalledSubr) (number : ℕ) (code : List ℕ) → (if b then calls subr.number subr.code else goes) ≡ calls number code
    → IsNamed (Some subr) number code
call_is true subr number code is = (cc, cc)
call_is false subr number code is = cc

work_calls : (w : Work) (named : Option CalledSubr) (depth : ℕ) (s : State) (number : ℕ) (code : List ℕ)
    → (working w named depth s).action ≡ calls number code → IsNamed named number code
work_calls clears named depth s number code is = cc
work_calls finishes_glyph named depth s number code is = cc
work_calls divides named depth s number code is = cc
work_calls calls_subr None depth s number code is = cc
work_calls calls_subr (Some subr) depth s number code is = call_is (nat_lt depth most_calls) subr number code is
work_calls returns_back named depth s number code is = absurd (never (nat_lt 0 depth) is)
  where
    never : (b : Bool) → (if b then returns else goes) ≡ calls number code → ⊥
    never true is = cc
    never false is = cc
work_calls calls_othersubr named depth s number code is = cc
work_calls pops named depth s number code is = cc

token_calls : (t : CharToken) (named : Option CalledSubr) (depth : ℕ) (s : State) (number : ℕ) (code : List ℕ)
    → (effect_of t named depth s).action ≡ calls number code → IsNamed named number code
token_calls (Command command) named depth s number code is = work_calls (work_of command) named depth s number code is
token_calls End named depth s number code is = absurd (never (nat_lt 0 depth) is)
  where
    never : (b : Bool) → (if b then returns else finishes) ≡ calls number code → ⊥
    never true is = cc
    never false is = cc
token_calls _ named depth s number code is = cc

with_code_is : (font : FontValue) (number : ℕ) (found : Option (List ℕ)) (k : ℕ) (code : List ℕ) → subr_in font number ≡ found
    → IsNamed (with_code number found) k code → subr_in font k ≡ Some code
with_code_is font number None k code is named = absurd named
with_code_is font number (Some bytes) k code is named = rw (← named.0) is ∙ ap Some named.1

subr_is : (font : FontValue) (number : Option ℕ) (k : ℕ) (code : List ℕ) → IsNamed (subr_of font number) k code → subr_in font k ≡ Some code
subr_is font None k code named = absurd named
subr_is font (Some number) k code named = with_code_is font number (subr_in font number) k code refl named

named_is : (font : FontValue) (t : CharToken) (s : State) (k : ℕ) (code : List ℕ) → IsNamed (named_at font t s.stack) k code
    → subr_in font k ≡ Some code
named_is font t s k code named = go (is_callsubr t && nat_lt 0 (length s.stack)) named
  where
    go : (b : Bool) → IsNamed (if b then subr_of font (natural (from_top s.stack 0)) else None) k code → subr_in font k ≡ Some code
    go true is = subr_is font (natural (from_top s.stack 0)) k code is
    go false is = absurd is

-- ---- the charstring of a called Subr

last_there : (path : List ℕ) (k : ℕ) → slice_get (path ++ k ∷ []) (length path) ≡ Some k
last_there [] k = refl
last_there (number ∷ path) k = last_there path k

called_charstring : (font : FontValue) (glyph : ℕ) (path : List ℕ) (k : ℕ) (code : List ℕ) → subr_in font k ≡ Some code
    → charstring_at font glyph (path ++ k ∷ []) ≡ code
called_charstring font glyph path k code is =
    let place : length (path ++ k ∷ []) - 1 ≡ length path = omega (arith, length-append path (k ∷ [])) in
    rw (place, last_there path k, is) refl

-- ---- step by step

not_finishing : (t : CharToken) (a : Action) → (is_finishing t ≡ true → a ≡ finishes) → (a ≡ finishes → ⊥) → is_finishing t ≡ false
not_finishing t a ends other = go (is_finishing t) refl
  where
    go : (b : Bool) → is_finishing t ≡ b → is_finishing t ≡ false
    go true is = absurd (other (ends is))
    go false is = is

no_call : (k : ℕ) (code : List ℕ) (a : Action) → a ≡ calls k code → a ≡ finishes → ⊥
no_call k code a call end = different (sym call ∙ end)
  where
    different : calls k code ≡ finishes → ⊥
    different e = cc

no_end : (a : Action) → a ≡ goes → a ≡ finishes → ⊥
no_end a on end = different (sym on ∙ end)
  where
    different : goes ≡ finishes → ⊥
    different e = cc

-- P is so of each charstring's tokens, and goes on to those behind a token that doesn't finish the glyph. Q is so of the step of a token
-- where P is so of it with those behind it.
module _ (font : FontValue) (glyph : ℕ) (P : List ℕ → List CharToken → Type 0) (Q : StepView → Type 0)
    (begins : (path : List ℕ) → P path (tokens_in font (charstring_at font glyph path)))
    (goes_on : (path : List ℕ) (t : CharToken) (ts : List CharToken) → is_finishing t ≡ false → P path (t ∷ ts) → P path ts)
    (here : (path : List ℕ) (t : CharToken) (ts : List CharToken) (s : State) → P path (t ∷ ts) → Q (step_at font path t ts s)) where
  led : (step : StepView) (x : State) (a : Action) (behind : State → Run) (called : ℕ → List ℕ → State → Run)
      → Q step → (a ≡ goes → (y : State) → AllByRecursion Q (behind y).steps)
      → ((k : ℕ) (code : List ℕ) → a ≡ calls k code → (y : State) → AllByRecursion Q (called k code y).steps)
      → AllByRecursion Q (led_to step x a behind called).steps
  led step x goes behind called own one other = (own, one refl x)
  led step x (calls k code) behind called own one other = (own, other k code refl x)
  led step x returns behind called own one other = (own, tt)
  led step x finishes behind called own one other = (own, tt)

  then_all : (run : Run) (next : State → Run) → AllByRecursion Q run.steps → ((x : State) → AllByRecursion Q (next x).steps)
      → AllByRecursion Q (and_then run next).steps
  then_all run next one rest = by_finished run.finished run.steps run.state one
    where
      by_finished : (b : Bool) (steps : List StepView) (x : State) → AllByRecursion Q steps
          → AllByRecursion Q (cond b (record { steps = steps; finished = b; state = x }) (after steps (next x))).steps
      by_finished true steps x all = all
      by_finished false steps x all = all_append Q steps (next x).steps all (rest x)

  all_from : (n : ℕ) (path : List ℕ) (ts : List CharToken) (s : State) → P path ts → AllByRecursion Q (expansion font n path ts s).steps
  unfolding expansion
  all_from n path [] s is = tt
  all_from zero path (t ∷ ts) s is =
      let e = effect_at font path t s in
      let ends = token_ends t (named_at font t s.stack) (length path) s in
      led (step_at font path t ts s) e.state e.action _ _ (here path t ts s is)
      (λ on y. all_from zero path ts y (goes_on path t ts (not_finishing t e.action ends (no_end e.action on)) is))
      (λ k code call y. all_from zero path ts y (goes_on path t ts (not_finishing t e.action ends (no_call k code e.action call)) is))
  all_from (suc n) path (t ∷ ts) s is =
      let e = effect_at font path t s in
      let ends = token_ends t (named_at font t s.stack) (length path) s in
      led (step_at font path t ts s) e.state e.action _ _ (here path t ts s is)
      (λ on y. all_from (suc n) path ts y (goes_on path t ts (not_finishing t e.action ends (no_end e.action on)) is))
      (λ k code call y.
      let there = named_is font t s k code (token_calls t (named_at font t s.stack) (length path) s k code call) in
      then_all (expansion font n (path ++ k ∷ []) (tokens_in font code) y) (λ z. expansion font (suc n) path ts z)
      (all_from n (path ++ k ∷ []) (tokens_in font code) y
      (subst (λ c. P (path ++ k ∷ []) (tokens_in font c)) (called_charstring font glyph path k code there) (begins (path ++ k ∷ []))))
      (λ z. all_from (suc n) path ts z (goes_on path t ts (not_finishing t e.action ends (no_call k code e.action call)) is)))

  at_place : (steps : List StepView) (place : ℕ) (step : StepView) → AllByRecursion Q steps → slice_get steps place ≡ Some step → Q step
  at_place [] place step all get = let no : None ≡ Some step = get in cc
  at_place (x ∷ steps) zero step all get = let same : x ≡ step = cc in subst Q same all.0
  at_place (x ∷ steps) (suc place) step all get = at_place steps place step all.1 get

  pub each_step : (place : ℕ) (step : StepView) → slice_get (steps_of font glyph) place ≡ Some step → Q step
  unfolding steps_of
  each_step place step get = at_place (steps_of font glyph) place step (all_from most_calls [] (tokens_in font (code_at font glyph)) at_start (begins [])) get
