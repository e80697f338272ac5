-- Where no charstring that can be executed has a seac, no step has.
use Rattle.std.proofs.Common.{◌≡◌, ℕ, ℤ, zero, suc, ◌&&◌, Bool, true, false, cond, nat_eq, nat_lt, Option, Some, None, List, [], ◌∷◌, ◌++◌, length, refl, ◌∙◌}
use Rattle.std.specs.List.{list_any}
use Rattle.std.specs.Map.{lookup}
use Rattle.std.proofs.lemmas.Bool.{or_parts}
use Rattle.std.proofs.lemmas.List.Folds.{list_any-append}
use Rattle.t1_font.specs.Fonts.{FontValue}
use Rattle.t1_char.specs.declared.token.CharToken.{CharToken}
use Rattle.t1_char.specs.declared.token.CharToken.TheVariants.{Number, Command, Unknown, Unknown12, Cut, Short, End}
use Rattle.t1_char.specs.Charstrings.{code_at, tokens_in}
use Rattle.t1_char.specs.Effects.{State, CalledSubr, Action, goes, calls, returns, finishes, Work, clears, finishes_glyph, divides, calls_subr, returns_back, calls_othersubr, pops, working, work_of, effect_of, back_or, call_of, most_calls}
use Rattle.t1_char.specs.Numbers.{natural}
use Rattle.t1_char.specs.Seacs.{has_seac, is_seac, step_is_seac, subr_has_seac, subrs_have_seac}
use Rattle.t1_char.specs.Stacks.{from_top}
use Rattle.t1_char.specs.Steps.{Run, StepView, after, and_then, at_start, effect_at, expansion, is_callsubr, led_to, named_at, step_at, steps_of, subr_of, with_code}

abbrev Lacks : List StepView → Type 0
Lacks steps = list_any step_is_seac steps ≡ false

-- A Subr that is called lacks it.
abbrev NamedLacks : FontValue → Option CalledSubr → Type 0
NamedLacks font None = Unit {0}
NamedLacks font (Some subr) = has_seac font subr.code ≡ false

abbrev ActionLacks : FontValue → Action → Type 0
ActionLacks font goes = Unit {0}
ActionLacks font (calls number code) = has_seac font code ≡ false
ActionLacks font returns = Unit {0}
ActionLacks font finishes = Unit {0}

of_lookup : (font : FontValue) (subrs : List (ℕ × List ℕ)) (number : ℕ) → list_any (subr_has_seac font) subrs ≡ false
    → NamedLacks font (with_code number (lookup (nat_eq number) subrs))
of_lookup font [] number none = tt
of_lookup font (subr ∷ subrs) number none = by_number (nat_eq number subr.0) (or_parts _ _ none).0 (of_lookup font subrs number (or_parts _ _ none).1)
  where
    by_number : (b : Bool) → has_seac font subr.1 ≡ false → NamedLacks font (with_code number (lookup (nat_eq number) subrs))
        → NamedLacks font (with_code number (cond b (Some subr.1) (lookup (nat_eq number) subrs)))
    by_number true this rest = this
    by_number false this rest = rest

of_number : (font : FontValue) → subrs_have_seac font ≡ false → (number : Option ℕ) → NamedLacks font (subr_of font number)
of_number font none None = tt
of_number font none (Some number) = of_lookup font font.subrs number none

of_named : (font : FontValue) → subrs_have_seac font ≡ false → (t : CharToken) (stack : List ℤ) → NamedLacks font (named_at font t stack)
of_named font none t stack = by_token (is_callsubr t && nat_lt 0 (length stack))
  where
    by_token : (b : Bool) → NamedLacks font (cond b (subr_of font (natural (from_top stack 0))) None)
    by_token true = of_number font none (natural (from_top stack 0))
    by_token false = tt

of_call : (font : FontValue) (named : Option CalledSubr) (depth : ℕ) → NamedLacks font named → ActionLacks font (call_of named depth)
of_call font None depth lacks = tt
of_call font (Some subr) depth lacks = by_depth (nat_lt depth most_calls)
  where
    by_depth : (b : Bool) → ActionLacks font (cond b (calls subr.number subr.code) goes)
    by_depth true = lacks
    by_depth false = tt

of_back : (font : FontValue) (otherwise : Action) (depth : ℕ) → ActionLacks font otherwise → ActionLacks font (back_or otherwise depth)
of_back font otherwise depth lacks = by_depth (nat_lt 0 depth)
  where
    by_depth : (b : Bool) → ActionLacks font (cond b returns otherwise)
    by_depth true = tt
    by_depth false = lacks

of_work : (font : FontValue) (w : Work) (named : Option CalledSubr) (depth : ℕ) (s : State) → NamedLacks font named
    → ActionLacks font (working w named depth s).action
of_work font clears named depth s lacks = tt
of_work font finishes_glyph named depth s lacks = tt
of_work font divides named depth s lacks = tt
of_work font calls_subr named depth s lacks = of_call font named depth lacks
of_work font returns_back named depth s lacks = of_back font goes depth tt
of_work font calls_othersubr named depth s lacks = tt
of_work font pops named depth s lacks = tt

of_effect : (font : FontValue) (t : CharToken) (named : Option CalledSubr) (depth : ℕ) (s : State) → NamedLacks font named
    → ActionLacks font (effect_of t named depth s).action
of_effect font (Number z) named depth s lacks = tt
of_effect font (Command c) named depth s lacks = of_work font (work_of c) named depth s lacks
of_effect font (Unknown _) named depth s lacks = tt
of_effect font (Unknown12 _) named depth s lacks = tt
of_effect font Cut named depth s lacks = tt
of_effect font Short named depth s lacks = tt
of_effect font End named depth s lacks = of_back font finishes depth tt

both_lack : (steps more : List StepView) → Lacks steps → Lacks more → Lacks (steps ++ more)
both_lack steps more these those = list_any-append step_is_seac steps more ∙ rw (these, those) refl

led_lacks : (font : FontValue) (step : StepView) (x : State) (a : Action) (behind : State → Run) (called : ℕ → List ℕ → State → Run) → step_is_seac step ≡ false
    → ActionLacks font a
    → ((y : State) → Lacks (behind y).steps) → ((k : ℕ) (code : List ℕ) (y : State) → has_seac font code ≡ false → Lacks (called k code y).steps)
    → Lacks (led_to step x a behind called).steps
led_lacks font step x goes behind called is lacks one other = rw (is, one x) refl
led_lacks font step x (calls k code) behind called is lacks one other = rw (is, other k code x lacks) refl
led_lacks font step x returns behind called is lacks one other = rw is refl
led_lacks font step x finishes behind called is lacks one other = rw is refl

then_lacks : (run : Run) (next : State → Run) → Lacks run.steps → ((x : State) → Lacks (next x).steps) → Lacks (and_then run next).steps
then_lacks run next one rest = by_finished run.finished run.steps run.state one
  where
    by_finished : (b : Bool) (steps : List StepView) (x : State) → Lacks steps
        → Lacks (cond b (record { steps = steps; finished = b; state = x }) (after steps (next x))).steps
    by_finished true steps x these = these
    by_finished false steps x these = both_lack steps (next x).steps these (rest x)

from_tokens : (font : FontValue) → subrs_have_seac font ≡ false → (n : ℕ) (path : List ℕ) (ts : List CharToken) (s : State) → list_any is_seac ts ≡ false
    → Lacks (expansion font n path ts s).steps
unfolding expansion
from_tokens font none n path [] s lack = refl
from_tokens font none zero path (t ∷ ts) s lack =
    led_lacks font (step_at font path t ts s) (effect_at font path t s).state (effect_at font path t s).action _ _
    (or_parts _ _ lack).0 (of_effect font t (named_at font t s.stack) (length path) s (of_named font none t s.stack))
    (λ y. from_tokens font none zero path ts y (or_parts _ _ lack).1) (λ k code y those. from_tokens font none zero path ts y (or_parts _ _ lack).1)
from_tokens font none (suc n) path (t ∷ ts) s lack =
    led_lacks font (step_at font path t ts s) (effect_at font path t s).state (effect_at font path t s).action _ _
    (or_parts _ _ lack).0 (of_effect font t (named_at font t s.stack) (length path) s (of_named font none t s.stack))
    (λ y. from_tokens font none (suc n) path ts y (or_parts _ _ lack).1)
    (λ k code y those. then_lacks (expansion font n (path ++ k ∷ []) (tokens_in font code) y) (λ z. expansion font (suc n) path ts z)
    (from_tokens font none n (path ++ k ∷ []) (tokens_in font code) y those)
    (λ z. from_tokens font none (suc n) path ts z (or_parts _ _ lack).1))

pub steps_lack_seac : (font : FontValue) (glyph : ℕ) → subrs_have_seac font ≡ false → has_seac font (code_at font glyph) ≡ false
    → list_any step_is_seac (steps_of font glyph) ≡ false
unfolding steps_of
steps_lack_seac font glyph none own = from_tokens font none most_calls [] (tokens_in font (code_at font glyph)) at_start own
