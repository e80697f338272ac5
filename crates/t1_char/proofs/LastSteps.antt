-- Nothing follows a step that finishes the glyph.
use Rattle.std.proofs.Common.{◌≡◌, ℕ, zero, suc, Bool, true, false, cond, Option, List, [], ◌∷◌, ◌++◌, length, refl, subst}
use Rattle.t1_font.specs.Fonts.{FontValue}
use Rattle.t1_char.specs.declared.command.Command.TheVariants.{Endchar, Seac}
use Rattle.t1_char.specs.declared.token.CharToken.{CharToken}
use Rattle.t1_char.specs.declared.token.CharToken.TheVariants.{Command, End}
use Rattle.t1_char.specs.Charstrings.{code_at, tokens_in}
use Rattle.t1_char.specs.Effects.{State, CalledSubr, Action, goes, calls, returns, finishes, effect_of, most_calls}
use Rattle.t1_char.specs.Steps.{Run, StepView, after, effect_at, step_at, named_at, led_to, expansion, and_then, steps_of, at_start}
use Rattle.t1_char.specs.Laws.Steps.{finishes_at, NothingFollows}

-- Where a step finishes, it is the last, and the run is finished.
abbrev Ends : List StepView → Bool → Type 0
Ends [] finished = Unit {0}
Ends (step ∷ steps) finished = (finishes_at step.token step.path ≡ true → (steps ≡ []) × (finished ≡ true)) × Ends steps finished

abbrev EndsRun : Run → Type 0
EndsRun run = Ends run.steps run.finished

acts : (t : CharToken) (named : Option CalledSubr) (path : List ℕ) (s : State) → finishes_at t path ≡ true
    → (effect_of t named (length path) s).action ≡ finishes
acts End named [] s h = refl
acts (Command Endchar) named path s h = refl
acts (Command Seac) named path s h = refl
acts _ named [] s h = cc
acts _ named (_ ∷ _) s h = cc

led_ends : (step : StepView) (x : State) (a : Action) (behind : State → Run) (called : ℕ → List ℕ → State → Run)
    → (finishes_at step.token step.path ≡ true → a ≡ finishes) →
    ((y : State) → EndsRun (behind y)) → ((k : ℕ) (code : List ℕ) (y : State) → EndsRun (called k code y)) → EndsRun (led_to step x a behind called)
led_ends step x goes behind called is one other = (λ h. absurd (not_goes (is h)), one x)
  where
    not_goes : goes ≡ finishes → ⊥
    not_goes e = cc
led_ends step x (calls k code) behind called is one other = (λ h. absurd (not_calls (is h)), other k code x)
  where
    not_calls : calls k code ≡ finishes → ⊥
    not_calls e = cc
led_ends step x returns behind called is one other = (λ h. absurd (not_returns (is h)), tt)
  where
    not_returns : returns ≡ finishes → ⊥
    not_returns e = cc
led_ends step x finishes behind called is one other = (λ h. (refl, refl), tt)

-- A run that isn't finished has no such step.
ends_both : (steps more : List StepView) (finished : Bool) → Ends steps false → Ends more finished → Ends (steps ++ more) finished
ends_both [] more finished none rest = rest
ends_both (step ∷ steps) more finished none rest = (λ h. absurd (not_finished ((none.0 h).1)), ends_both steps more finished none.1 rest)
  where
    not_finished : false ≡ true → ⊥
    not_finished e = cc

ends_then : (run : Run) (next : State → Run) → EndsRun run → ((x : State) → EndsRun (next x)) → EndsRun (and_then run next)
ends_then run next one rest = by_finished run.finished run.steps run.state one
  where
    by_finished : (b : Bool) (steps : List StepView) (x : State) → Ends steps b
        → EndsRun (cond b (record { steps = steps; finished = b; state = x }) (after steps (next x)))
    by_finished true steps x ends = ends
    by_finished false steps x ends = ends_both steps (next x).steps (next x).finished ends (rest x)

ends_of : (font : FontValue) (n : ℕ) (path : List ℕ) (ts : List CharToken) (s : State) → EndsRun (expansion font n path ts s)
unfolding expansion
ends_of font n path [] s = tt
ends_of font zero path (t ∷ ts) s =
    led_ends (step_at font path t ts s) (effect_at font path t s).state (effect_at font path t s).action _ _ (acts t (named_at font t s.stack) path s)
    (λ y. ends_of font zero path ts y) (λ k code y. ends_of font zero path ts y)
ends_of font (suc n) path (t ∷ ts) s =
    led_ends (step_at font path t ts s) (effect_at font path t s).state (effect_at font path t s).action _ _ (acts t (named_at font t s.stack) path s)
    (λ y. ends_of font (suc n) path ts y)
    (λ k code y. ends_then (expansion font n (path ++ k ∷ []) (tokens_in font code) y) (λ z. expansion font (suc n) path ts z)
    (ends_of font n (path ++ k ∷ []) (tokens_in font code) y) (λ z. ends_of font (suc n) path ts z))

last_in : (front rest : List StepView) (step : StepView) (finished : Bool) → Ends (front ++ step ∷ rest) finished → finishes_at step.token step.path ≡ true
    → rest ≡ []
last_in [] rest step finished ends h = (ends.0 h).0
last_in (x ∷ front) rest step finished ends h = last_in front rest step finished ends.1 h

pub nothing_follows : NothingFollows
unfolding steps_of
nothing_follows font glyph front rest step is h =
    let run : Run = expansion font most_calls [] (tokens_in font (code_at font glyph)) at_start in
    last_in front rest step run.finished (subst (λ l. Ends l run.finished) is (ends_of font most_calls [] (tokens_in font (code_at font glyph)) at_start)) h
