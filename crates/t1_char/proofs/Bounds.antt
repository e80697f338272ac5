-- The bounds of paths, stacks and results.
use Rattle.std.proofs.Common.{◌≡◌, ℕ, zero, suc, ◌+◌, ◌<◌, ◌≤◌, Bool, true, false, cond, Option, Some, None, ℤ, List, [], ◌∷◌, ◌++◌, length, nat_lt, nat_le, length-append, get_or, refl, arith}
use Rattle.std.proofs.lemmas.Grind.{common_steps}
use Rattle.t1_font.specs.Fonts.{FontValue}
use Rattle.t1_char.specs.declared.token.CharToken.{CharToken}
use Rattle.t1_char.specs.declared.token.CharToken.TheVariants.{Number, Command, Unknown, Unknown12, Cut, Short, End}
use Rattle.t1_char.specs.Charstrings.{code_at, tokens_in}
use Rattle.t1_char.specs.Numbers.{natural}
use Rattle.t1_char.specs.Stacks.{put, from_top, without, topmost}
use Rattle.t1_char.specs.Effects.{State, CalledSubr, Action, goes, calls, returns, finishes, Work, clears, finishes_glyph, divides, calls_subr, returns_back, calls_othersubr, pops, working, work_of, effect_of, divided, results, handed_over, after_othersubr, popped, most_calls}
use Rattle.t1_char.specs.Steps.{Run, StepView, after, effect_at, step_at, named_at, led_to, expansion, and_then, steps_of, at_start}
use Rattle.t1_char.specs.Laws.Steps.{IsBounded, StepsAreBounded}

record IsWithin (s : State) : Type 0 where
  stack : length s.stack ≤ 24
  waiting : length s.waiting ≤ 22

put_within : (stack : List ℤ) (z : ℤ) → length stack ≤ 24 → length (put stack z) ≤ 24
put_within stack z few = grind (arith, common_steps)

without_within : (n : ℕ) (stack : List ℤ) → length (without n stack) ≤ length stack
without_within n stack = grind (arith, common_steps)

divided_within : (stack : List ℤ) → length stack ≤ 24 → length (divided stack) ≤ 24
divided_within stack few = grind (arith, common_steps)

results_within : (other : Option ℕ) (arguments : List ℤ) → length (results other arguments) ≤ length arguments
results_within None arguments = omega arith
results_within (Some other) arguments = grind (arith, common_steps)

topmost_within : (n : ℕ) (stack : List ℤ) → length (topmost n stack) ≤ length stack
topmost_within n stack = grind (arith, common_steps)

two_less : (stack : List ℤ) → length stack ≤ 24 → length (without 2 stack) ≤ 22
two_less stack few = grind (arith, common_steps)

handed_within : (other count : Option ℕ) (s : State) → length s.stack ≤ 22 → length s.waiting ≤ 22 → IsWithin (handed_over other count s)
handed_within other None s few waiting = record { stack = omega arith; waiting = waiting }
handed_within other (Some count) s few waiting = by_count (nat_le count (length s.stack))
  where
    by_count : (b : Bool) → IsWithin (cond b (record { stack = without count s.stack; waiting = results other (topmost count s.stack) }) s)
    by_count true =
        record {
          stack = omega (arith, without_within count s.stack);
          waiting = omega (arith, results_within other (topmost count s.stack), topmost_within count s.stack);
        }
    by_count false = record { stack = omega arith; waiting = waiting }

othersubr_within : (s : State) → IsWithin s → IsWithin (after_othersubr s)
othersubr_within s within = by_length (nat_lt (length s.stack) 2)
  where
    by_length : (b : Bool) → IsWithin (cond b s
        (handed_over (natural (from_top s.stack 0)) (natural (from_top s.stack 1)) (record s { stack = without 2 s.stack })))
    by_length true = within
    by_length false = handed_within (natural (from_top s.stack 0)) (natural (from_top s.stack 1)) (record s { stack = without 2 s.stack })
        (two_less s.stack within.stack) within.waiting

popped_within : (stack waiting : List ℤ) → length stack ≤ 24 → length waiting ≤ 22 → IsWithin (popped stack waiting)
popped_within stack [] few waiting = record { stack = few; waiting = omega arith }
popped_within stack (z ∷ waiting) few most = record { stack = put_within stack z few; waiting = omega arith }

work_within : (w : Work) (named : Option CalledSubr) (depth : ℕ) (s : State) → IsWithin s → IsWithin (working w named depth s).state
work_within clears named depth s within = record { stack = omega arith; waiting = within.waiting }
work_within finishes_glyph named depth s within = record { stack = omega arith; waiting = within.waiting }
work_within divides named depth s within = record { stack = divided_within s.stack within.stack; waiting = within.waiting }
work_within calls_subr named depth s within = record { stack = omega (arith, without_within 1 s.stack, within.stack); waiting = within.waiting }
work_within returns_back named depth s within = within
work_within calls_othersubr named depth s within = othersubr_within s within
work_within pops named depth s within = popped_within s.stack s.waiting within.stack within.waiting

effect_within : (t : CharToken) (named : Option CalledSubr) (depth : ℕ) (s : State) → IsWithin s → IsWithin (effect_of t named depth s).state
effect_within (Number z) named depth s within = record { stack = put_within s.stack _ within.stack; waiting = within.waiting }
effect_within (Command c) named depth s within = work_within (work_of c) named depth s within
effect_within (Unknown _) named depth s within = record { stack = omega arith; waiting = within.waiting }
effect_within (Unknown12 _) named depth s within = record { stack = omega arith; waiting = within.waiting }
effect_within Cut named depth s within = within
effect_within Short named depth s within = within
effect_within End named depth s within = within

abbrev AreBounded : List StepView → Type 0
AreBounded [] = Unit {0}
AreBounded (step ∷ steps) = IsBounded step × AreBounded steps

abbrev IsBoundedRun : Run → Type 0
IsBoundedRun run = AreBounded run.steps × IsWithin run.state

led_bounded : (step : StepView) (x : State) (a : Action) (behind : State → Run) (called : ℕ → List ℕ → State → Run) → IsBounded step → IsWithin x →
    ((y : State) → IsWithin y → IsBoundedRun (behind y)) → ((k : ℕ) (code : List ℕ) (y : State) → IsWithin y → IsBoundedRun (called k code y))
    → IsBoundedRun (led_to step x a behind called)
led_bounded step x goes behind called is within one other = ((is, (one x within).0), (one x within).1)
led_bounded step x (calls k code) behind called is within one other = ((is, (other k code x within).0), (other k code x within).1)
led_bounded step x returns behind called is within one other = ((is, tt), within)
led_bounded step x finishes behind called is within one other = ((is, tt), within)

bounded_both : (steps more : List StepView) → AreBounded steps → AreBounded more → AreBounded (steps ++ more)
bounded_both [] more these those = those
bounded_both (step ∷ steps) more these those = (these.0, bounded_both steps more these.1 those)

bounded_then : (run : Run) (next : State → Run) → IsBoundedRun run → ((x : State) → IsWithin x → IsBoundedRun (next x)) → IsBoundedRun (and_then run next)
bounded_then run next one rest = by_finished run.finished run.steps run.state one
  where
    by_finished : (b : Bool) (steps : List StepView) (x : State) → AreBounded steps × IsWithin x
        → IsBoundedRun (cond b (record { steps = steps; finished = b; state = x }) (after steps (next x)))
    by_finished true steps x these = these
    by_finished false steps x these = (bounded_both steps (next x).steps these.0 (rest x these.1).0, (rest x these.1).1)

step_bounded : (font : FontValue) (path : List ℕ) (t : CharToken) (ts : List CharToken) (s : State) → length path ≤ 10 → IsWithin s
    → IsBounded (step_at font path t ts s)
step_bounded font path t ts s short within = record { path = short; stack = within.stack; waiting = within.waiting }

bounded_of : (font : FontValue) (n : ℕ) (path : List ℕ) (ts : List CharToken) (s : State) → length path + n ≡ 10 → IsWithin s
    → IsBoundedRun (expansion font n path ts s)
unfolding expansion
bounded_of font n path [] s deep within = (tt, within)
bounded_of font zero path (t ∷ ts) s deep within =
    led_bounded (step_at font path t ts s) (effect_at font path t s).state (effect_at font path t s).action _ _
    (step_bounded font path t ts s (omega arith) within) (effect_within t (named_at font t s.stack) (length path) s within)
    (λ y inside. bounded_of font zero path ts y deep inside) (λ k code y inside. bounded_of font zero path ts y deep inside)
bounded_of font (suc n) path (t ∷ ts) s deep within =
    led_bounded (step_at font path t ts s) (effect_at font path t s).state (effect_at font path t s).action _ _
    (step_bounded font path t ts s (omega arith) within) (effect_within t (named_at font t s.stack) (length path) s within)
    (λ y inside. bounded_of font (suc n) path ts y deep inside)
    (λ k code y inside. bounded_then (expansion font n (path ++ k ∷ []) (tokens_in font code) y) (λ z. expansion font (suc n) path ts z)
    (bounded_of font n (path ++ k ∷ []) (tokens_in font code) y (omega (arith, length-append path (k ∷ []))) inside)
    (λ z also. bounded_of font (suc n) path ts z deep also))

each_bounded : (steps : List StepView) → AreBounded steps → (k : ℕ) (d : StepView) → k < length steps → IsBounded (get_or steps k d)
each_bounded [] these k d lt = absurd (omega arith)
each_bounded (step ∷ steps) these zero d lt = these.0
each_bounded (step ∷ steps) these (suc k) d lt = each_bounded steps these.1 k d (omega arith)

pub steps_are_bounded : StepsAreBounded
unfolding steps_of
steps_are_bounded font glyph k d lt =
    each_bounded _ (bounded_of font most_calls [] (tokens_in font (code_at font glyph)) at_start refl (record { stack = omega arith; waiting = omega arith })).0
    k d lt
