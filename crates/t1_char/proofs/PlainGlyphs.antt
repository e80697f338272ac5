-- A glyph without calls, token by token.
use Rattle.std.proofs.Common.{◌≡◌, ℕ, zero, suc, Bool, true, false, cond, Option, List, [], ◌∷◌, ◌++◌, map, refl, ap, ◌∙◌, arith}
use Rattle.std.specs.List.{AllPass}
use Rattle.t1_font.specs.Fonts.{FontValue}
use Rattle.t1_char.specs.declared.command.Command.TheVariants.{Callsubr}
use Rattle.t1_char.specs.declared.token.CharToken.{CharToken}
use Rattle.t1_char.specs.declared.token.CharToken.TheVariants.{Command}
use Rattle.t1_char.specs.Charstrings.{code_at, tokens_in}
use Rattle.t1_char.specs.Effects.{State, CalledSubr, goes, finishes, effect_of, most_calls}
use Rattle.t1_char.specs.Steps.{Run, StepView, effect_at, step_at, led_to, expansion, and_then, steps_of, at_start}
use Rattle.t1_char.specs.Laws.Steps.{finishes_at, up_to, token_and_path, calls_nothing, PlainGlyphsGoOn}

-- Outside Subrs a token that calls nothing finishes the glyph or goes on.
action_plain : (t : CharToken) (named : Option CalledSubr) (s : State) → calls_nothing t ≡ true → (effect_of t named 0 s).action
    ≡ cond (finishes_at t []) finishes goes
action_plain (Command Callsubr) named s h = cc
action_plain _ named s h = refl

abbrev outside : CharToken → CharToken × List ℕ
outside t = (t, [])

abbrev finishing : CharToken → Bool
finishing t = finishes_at t []

led_plain : (b : Bool) (t : CharToken) (step : StepView) (x : State) (behind : State → Run) (called : ℕ → List ℕ → State → Run) (ts : List CharToken)
    → token_and_path step ≡ outside t →
    map token_and_path (behind x).steps ≡ map outside ts → map token_and_path (led_to step x (cond b finishes goes) behind called).steps
    ≡ map outside (cond b (t ∷ []) (t ∷ ts))
led_plain true t step x behind called ts is rest = ap (λ p. p ∷ []) is
led_plain false t step x behind called ts is rest = ap (λ p. p ∷ map token_and_path (behind x).steps) is ∙ ap (λ l. outside t ∷ l) rest

plain_from : (font : FontValue) (n : ℕ) (ts : List CharToken) (s : State) → AllPass calls_nothing ts → map token_and_path (expansion font n [] ts s).steps
    ≡ map outside (up_to finishing ts)
unfolding expansion
plain_from font n [] s none = refl
plain_from font zero (t ∷ ts) s none =
    let x : State = (effect_at font [] t s).state in
    let behind : State → Run = λ y. expansion font zero [] ts y in
    let called : ℕ → List ℕ → State → Run = λ k code y. expansion font zero [] ts y in
    ap (λ a. map token_and_path (led_to (step_at font [] t ts s) x a behind called).steps) (action_plain t _ s (none 0 t (omega arith)))
    ∙ led_plain (finishing t) t (step_at font [] t ts s) x behind called (up_to finishing ts) refl
    (plain_from font zero ts x (λ k d lt. none (suc k) d (omega arith)))
plain_from font (suc n) (t ∷ ts) s none =
    let x : State = (effect_at font [] t s).state in
    let behind : State → Run = λ y. expansion font (suc n) [] ts y in
    let called : ℕ → List ℕ → State → Run = λ k code y. and_then (expansion font n ([] ++ k ∷ []) (tokens_in font code) y)
    (λ z. expansion font (suc n) [] ts z) in
    ap (λ a. map token_and_path (led_to (step_at font [] t ts s) x a behind called).steps) (action_plain t _ s (none 0 t (omega arith)))
    ∙ led_plain (finishing t) t (step_at font [] t ts s) x behind called (up_to finishing ts) refl
    (plain_from font (suc n) ts x (λ k d lt. none (suc k) d (omega arith)))

pub plain_glyphs_go_on : PlainGlyphsGoOn
unfolding steps_of
plain_glyphs_go_on font glyph none = plain_from font most_calls (tokens_in font (code_at font glyph)) at_start none
