-- Frames that go on to the next step.
use Rattle.std.proofs.Common.{◌≡◌, inl, inr, ℕ, zero, suc, ℤ, ◌+◌, ◌<◌, ◌≤◌, true, false, List, drop, refl, ap, sym, subst, ◌∙◌, arith}
use Rattle.std.proofs.lemmas.Bool.{cases_lt}
use Rattle.t1_font.specs.Fonts.{FontValue}
use Rattle.t1_char.specs.declared.cursor.Cursor.{Cursor}
use Rattle.t1_char.specs.declared.frames.Frames.{Frames}
use Rattle.t1_char.specs.declared.lines.Way.{Way}
use Rattle.t1_char.specs.declared.token.CharToken.{CharToken}
use Rattle.t1_char.specs.declared.token.CharToken.TheVariants.{Command}
use Rattle.t1_char.specs.declared.lines.Passing.{Passing}
use Rattle.t1_char.specs.declared.lines.Passing.TheVariants as passing
use Rattle.t1_char.specs.declared.machine.Numbers.{Numbers}
use Rattle.t1_char.specs.declared.machine.Numbers.TheVariants as numbers_of
use Rattle.t1_char.specs.Asking.{IsAskedBehind}
use Rattle.t1_char.specs.Turns.{TurnValue}
use Rattle.t1_char.specs.Lines.{IsAskedFarBehind, PassesSteps, PassesStep, leads, no_way}
use Rattle.t1_char.specs.Passing.{ArePassed, IsPassed}
use Rattle.t1_char.specs.Steps.{StepView, step_at}
use Rattle.t1_char.specs.Private.Advancing.{GoesFar, HasGoneFar, passage}
use Rattle.t1_char.specs.Private.Cursors.{tokens_left}
use Rattle.t1_char.specs.Private.Frames.{state_in, steps_behind}
use Rattle.t1_char.specs.Private.Machines.{IsBehind}
use Rattle.t1_char.specs.Private.Plain.{PassesNumber}
use Rattle.t1_char.specs.Private.Taking.{PassesCommand, PassesOne, PassesRow}
use Rattle.t1_char.proofs.Executing.{goes_over_one, token_over}
use Rattle.t1_char.proofs.MachineSteps.{drop_next, get_there, gone_over, is_within}

-- The same frames with another charstring and another stack.
abbrev pub frames_at : Frames → Cursor → List ℤ → Frames
frames_at f cursor stack = record f { current = cursor; step = record f.step { stack = stack } }

step_more : (what : Passing) (limit : ℕ) (steps : List StepView) (font : FontValue) (n taken : ℕ) (before way : Way) (f new : Frames)
    → HasGoneFar (passage what limit font) steps n taken before f → PassesStep what limit steps (n + taken) before way
    → IsBehind limit steps font (n + taken + 1) new → HasGoneFar (passage what limit font) steps n (suc taken) way new
step_more what limit steps font n taken before way f new so_far one behind =
    let same : n + taken + 1 ≡ n + suc taken = omega arith in
    record { passed = (before, (so_far.passed, one)); behind = subst (λ m. IsBehind limit steps font m new) same behind }

number_more : (what : Passing) (limit : ℕ) (steps : List StepView) (font : FontValue) (n taken : ℕ) (before way : Way) (f : Frames) (cursor : Cursor) (stack : List ℤ)
    → HasGoneFar (passage what limit font) steps n taken before f → PassesNumber f.current cursor f.step.stack stack → way ≡ before → n + taken < limit
    → HasGoneFar (passage what limit font) steps n (suc taken) way (frames_at f cursor stack)
number_more what limit steps font n taken before way f cursor stack so_far number same near =
    let one = gone_over limit steps font (n + taken) f (frames_at f cursor stack) so_far.behind
    (goes_over_one font f (frames_at f cursor stack) number refl refl refl) near in
    step_more what limit steps font n taken before way f (frames_at f cursor stack) so_far (inl (one.passed, same)) one.behind

command_more : (what : Passing) (limit : ℕ) (steps : List StepView) (font : FontValue) (n taken : ℕ) (before way : Way) (f : Frames) (cursor : Cursor) (stack : List ℤ)
    → HasGoneFar (passage what limit font) steps n taken before f → leads what ≡ true → PassesCommand what f.current cursor f.step.stack stack before way → n + taken < limit
    → HasGoneFar (passage what limit font) steps n (suc taken) way (frames_at f cursor stack)
command_more what limit steps font n taken before way f cursor stack so_far on line near =
    let new : Frames = frames_at f cursor stack in
    let t : CharToken = Command line.command in
    let step : StepView = step_at font f.step.path.items t (tokens_left cursor) (state_in f) in
    let rest : List StepView = steps_behind font new in
    let there = sym so_far.behind.steps_are ∙ token_over font f new t line.token line.plain refl refl refl in
    let one_more : n + taken + 1 ≡ suc (n + taken) = omega arith in
    step_more what limit steps font n taken before way f new so_far
    (inr (
      on,
      record {
        step = step;
        command = line.command;
        there = get_there (n + taken) steps rest step there;
        token = refl;
        near = near;
        goes_on = line.goes_on;
      },
    ))
    (record {
      even = so_far.behind.even;
      steps_are = sym (ap (λ k. drop k steps) one_more ∙ drop_next (n + taken) steps rest step there);
      near = omega (arith, near);
      within = is_within (n + taken) steps rest step there;
    })

row_over : (what : Passing) (limit : ℕ) (steps : List StepView) (font : FontValue) (n : ℕ) (f : Frames) (taken : ℕ) (ahead behind : Cursor) (stack : List ℤ) (way : Way)
    → ahead ≡ f.current → IsBehind limit steps font n f → PassesRow what taken ahead behind f.step.stack stack way → n + taken ≤ limit
    → HasGoneFar (passage what limit font) steps n taken way (frames_at f behind stack)
row_over what limit steps font n f zero ahead behind stack way is at row near =
    let same : n ≡ n + 0 = omega arith in
    record {
      passed = row.1.1;
      behind = subst (λ s. IsBehind limit steps font (n + 0) (frames_at f behind s)) (sym row.1.0)
          (subst (λ cursor. IsBehind limit steps font (n + 0) (frames_at f cursor f.step.stack)) (sym (row.0 ∙ is))
          (subst (λ m. IsBehind limit steps font m f) same at));
    }
row_over what limit steps font n f (suc taken) ahead behind stack way is at row near =
    let between : Cursor = row.0 in
    let so_far : List ℤ = row.1.0 in
    let before : Way = row.1.1.0 in
    let here : Frames = frames_at f between so_far in
    by_one here before
    (row_over what limit steps font n f taken ahead between so_far before is at row.1.1.1.0 (omega (arith, near))) row.1.1.1.1
  where
    by_one : (here : Frames) (before : Way) → HasGoneFar (passage what limit font) steps n taken before here
        → PassesOne what here.current behind here.step.stack stack before way
        → HasGoneFar (passage what limit font) steps n (suc taken) way (frames_at here behind stack)
    by_one here before gone (inl number) =
        number_more what limit steps font n taken before way here behind stack gone number.0 number.1 (omega (arith, near))
    by_one here before gone (inr line) =
        command_more what limit steps font n taken before way here behind stack gone line.0 line.1 (omega (arith, near))

pub lines_over : (what : Passing) (limit : ℕ) (font : FontValue) (n : ℕ) (f : Frames) (taken : ℕ) (ahead behind : Cursor) (stack : List ℤ) (way : Way)
    → ahead ≡ f.current → PassesRow what taken ahead behind f.step.stack stack way → n + taken ≤ limit
    → GoesFar (passage what limit font) n f taken way (frames_at f behind stack)
lines_over what limit font n f taken ahead behind stack way is row near = λ steps at.
    row_over what limit steps font n f taken ahead behind stack way is at row near

-- None.
pub none_over : (what : Passing) (limit : ℕ) (font : FontValue) (n : ℕ) (f : Frames) → GoesFar (passage what limit font) n f 0 no_way f
none_over what limit font n f = λ steps at.
    let same : n ≡ n + 0 = omega arith in
    record { passed = refl; behind = subst (λ m. IsBehind limit steps font m f) same at }

-- Where no command is passed, numbers alone are.
pub all_numbers : (what : Passing) → leads what ≡ false → (limit : ℕ) (steps : List StepView) (n taken : ℕ) (way : Way) → PassesSteps what limit steps n taken way → ArePassed limit steps n (n + taken)
all_numbers what none limit steps n zero way passes = λ k from to. absurd (omega (arith, from, to))
all_numbers what none limit steps n (suc taken) way passes =
    one_more limit steps n taken passes.0 way (all_numbers what none limit steps n taken passes.0 passes.1.0) passes.1.1
  where
    one_more : (limit : ℕ) (steps : List StepView) (n taken : ℕ) (before way : Way) → ArePassed limit steps n (n + taken)
        → PassesStep what limit steps (n + taken) before way → ArePassed limit steps n (n + suc taken)
    one_more limit steps n taken before way so_far (inr line) = let no : false ≡ true = sym none ∙ line.0 in cc
    one_more limit steps n taken before way so_far (inl number) = λ k from to.
        elim (cases_lt k (n + taken)) [
          | inl less ↦ so_far k from less
          | inr here ↦
              let same : n + taken ≡ k = omega (arith, here, to) in
              subst (IsPassed limit steps) same number.0
        ]

-- How a machine was called where no command is passed.
pub asked_numbers : (numbers : Numbers) (what : Passing) (limit : ℕ) (steps : List StepView) (n calls : ℕ) (answer : TurnValue) (way : Way) → leads what ≡ false
    → (numbers ≡ numbers_of.Returned → what ≡ passing.Returned)
    → IsAskedFarBehind what limit steps n calls answer way → IsAskedBehind numbers limit steps n calls answer
asked_numbers numbers what limit steps n calls answer way none returned asked =
    record {
      before = n + asked.taken;
      least = omega arith;
      passed = all_numbers what none limit steps n asked.taken way asked.passed;
      returned = λ is. omega (arith, asked.returned (returned is));
      turn = asked.turn;
      counted = asked.counted;
    }
