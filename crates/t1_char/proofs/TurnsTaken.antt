-- What the results of a machine say of the steps up to the limit.
-- A result's form says how far the count is: at a step of the list, just past the limit, or past the last step.
use Rattle.std.proofs.Common.{◌≡◌, ℕ, zero, suc, ◌+◌, ◌-◌, ◌<◌, ◌≤◌, Bool, true, false, true≢false, cond, nat_lt, Option, None, Some, is_some, List, [], ◌∷◌, ◌++◌, length, take, slice_get, length-take, refl, ap, sym, ◌∙◌, lt-ltb, le-ltb, arith}
use Rattle.std.proofs.lemmas.Bool.{ltb-true, ltb-false}
use Rattle.std.proofs.lemmas.List.{take_all, take_more, get_or-take}
use Rattle.std.proofs.lemmas.Option.{get_or_from_slice_get, slice_get_within}
use Rattle.t1_font.specs.Fonts.{FontValue}
use Rattle.t1_char.specs.declared.edition.Edition.{Edition}
use Rattle.t1_char.specs.Editions.{limit_of}
use Rattle.t1_char.specs.Steps.{StepView, NumberedStep, steps_of}
use Rattle.t1_char.specs.declared.machine.Answer.{Answer}
use Rattle.t1_char.specs.declared.machine.Answer.TheVariants as answers
use Rattle.t1_char.specs.AnswerViews.{answer_view}
use Rattle.t1_char.specs.Turns.{MachineView, TurnValue, stepped, ended, limited, step_of_number, step_or_end, limit_or_end, turn_at, counted_after}
use Rattle.t1_char.proofs.TurnTests.{turn_by_limit}

-- The next step was returned.
pub record IsStepped (limit : ℕ) (steps : List StepView) (n : ℕ) (answer : NumberedStep) : Type 0 where
  pub within : n < length (take limit steps)
  pub there : slice_get steps n ≡ Some answer.step
  pub more : take (n + 1) (take limit steps) ≡ take n (take limit steps) ++ answer.step ∷ []
  pub number : answer.number ≡ n + 1
  pub counted : counted_after limit steps n ≡ n + 1

abbrev pub is_step : TurnValue → Bool
is_step (stepped _) = true
is_step ended = false
is_step (limited _) = false

abbrev step_in : NumberedStep → TurnValue → NumberedStep
step_in default (stepped step) = step
step_in default ended = default
step_in default (limited _) = default

no_limit : (limit : ℕ) (o : Option StepView) → is_step (limit_or_end limit o) ≡ false
no_limit limit None = refl
no_limit limit (Some step) = refl

pub stepped_is : (limit : ℕ) (steps : List StepView) (n : ℕ) (answer : NumberedStep) → stepped answer ≡ turn_at limit steps n → IsStepped limit steps n answer
stepped_is limit steps n answer is = by_place (nat_lt n limit) (slice_get steps n) refl refl (is ∙ turn_by_limit limit steps n)
  where
    of_step : (step : StepView) → n < limit → slice_get steps n ≡ Some step → answer ≡ step_of_number (n + 1) step → IsStepped limit steps n answer
    of_step step below get same =
        let there : n < length steps = slice_get_within steps n step get in
        let less : n < length (take limit steps) = omega (arith, there, below, length-take limit steps) in
        record {
          within = less;
          there = get ∙ ap (λ (x : StepView). Some x) (sym (ap (λ a. a.step) same));
          more = take_more (take limit steps) n step less
              ∙ ap (λ x. take n (take limit steps) ++ x ∷ []) (get_or-take limit steps n step below ∙ get_or_from_slice_get steps n step step get
              ∙ sym (ap (λ a. a.step) same));
          number = ap (λ a. a.number) same;
          counted = ap (λ b. cond b n (n + 1)) (le-ltb (length (take limit steps)) n (omega (arith, less)));
        }

    by_place : (b : Bool) (o : Option StepView) → nat_lt n limit ≡ b → slice_get steps n ≡ o → stepped answer ≡ cond b (step_or_end n o)
        (limit_or_end limit (slice_get steps limit)) → IsStepped limit steps n answer
    by_place true (Some step) below get is = of_step step (ltb-true n limit below) get (ap (step_in answer) is)
    by_place true None below get is = absurd (true≢false (ap is_step is))
    by_place false o above get is = absurd (true≢false (ap is_step is ∙ no_limit limit (slice_get steps limit)))

some_there : (n : ℕ) (xs : List StepView) (k : ℕ) → k < length xs → is_step (step_or_end n (slice_get xs k)) ≡ true
some_there n [] k less = absurd (omega (arith, less))
some_there n (x ∷ xs) zero less = refl
some_there n (x ∷ xs) (suc k) less = some_there n xs k (omega (arith, less))

stepped_there : (limit : ℕ) (steps : List StepView) (n : ℕ) → n < limit → n < length steps → is_step (turn_at limit steps n) ≡ true
stepped_there limit steps n below there =
    ap is_step (turn_by_limit limit steps n)
    ∙ ap (λ b. is_step (cond b (step_or_end n (slice_get steps n)) (limit_or_end limit (slice_get steps limit)))) (lt-ltb n limit below)
    ∙ some_there n steps n there

-- No step was returned, since all up to the limit were before.
pub turns_over : (limit : ℕ) (steps : List StepView) (n : ℕ) → is_step (turn_at limit steps n) ≡ false → length (take limit steps) ≤ n
turns_over limit steps n no_step = by_place (nat_lt n (length (take limit steps))) refl
  where
    by_place : (b : Bool) → nat_lt n (length (take limit steps)) ≡ b → length (take limit steps) ≤ n
    by_place false past = ltb-false n (length (take limit steps)) past
    by_place true less =
        let within : n < length (take limit steps) = ltb-true n (length (take limit steps)) less in
        let below : n < limit = omega (arith, within, length-take limit steps) in
        let there : n < length steps = omega (arith, within, length-take limit steps) in
        absurd (true≢false (sym (stepped_there limit steps n below there) ∙ no_step))

-- The same of a machine that executes this glyph of this font by this edition.
pub record Executes (edition : Edition) (font : FontValue) (glyph : ℕ) (m : MachineView) : Type 0 where
  pub edition_is : m.edition ≡ edition
  pub font_is : m.font ≡ font
  pub glyph_is : m.glyph ≡ glyph

pub same_turn : (edition : Edition) (m : MachineView) (font : FontValue) (glyph : ℕ) → Executes edition font glyph m
    → turn_at (limit_of m.edition) (steps_of m.font m.glyph) m.counted ≡ turn_at (limit_of edition) (steps_of font glyph) m.counted
same_turn edition m font glyph same =
    ap (λ e. turn_at (limit_of e) (steps_of m.font m.glyph) m.counted) same.edition_is
    ∙ ap (λ f. turn_at (limit_of edition) (steps_of f m.glyph) m.counted) same.font_is
    ∙ ap (λ g. turn_at (limit_of edition) (steps_of font g) m.counted) same.glyph_is

pub same_count : (edition : Edition) (m : MachineView) (font : FontValue) (glyph : ℕ) → Executes edition font glyph m
    → counted_after (limit_of m.edition) (steps_of m.font m.glyph) m.counted ≡ counted_after (limit_of edition) (steps_of font glyph) m.counted
same_count edition m font glyph same =
    ap (λ e. counted_after (limit_of e) (steps_of m.font m.glyph) m.counted) same.edition_is
    ∙ ap (λ f. counted_after (limit_of edition) (steps_of f m.glyph) m.counted) same.font_is
    ∙ ap (λ g. counted_after (limit_of edition) (steps_of font g) m.counted) same.glyph_is

pub machine_stepped : (edition : Edition) (m : MachineView) (font : FontValue) (glyph : ℕ) (answer : NumberedStep) → Executes edition font glyph m
    → stepped answer ≡ turn_at (limit_of m.edition) (steps_of m.font m.glyph) m.counted → IsStepped (limit_of edition) (steps_of font glyph) m.counted answer
machine_stepped edition m font glyph answer same is = stepped_is (limit_of edition) (steps_of font glyph) m.counted answer
    (is ∙ same_turn edition m font glyph same)

pub machine_counted : (edition : Edition) (m : MachineView) (font : FontValue) (glyph : ℕ) (answer : NumberedStep) (counted : ℕ) → Executes edition font glyph m
    → IsStepped (limit_of edition) (steps_of font glyph) m.counted answer → counted ≡ counted_after (limit_of m.edition) (steps_of m.font m.glyph) m.counted
    → counted ≡ m.counted + 1
machine_counted edition m font glyph answer counted same stepped_to is = is ∙ same_count edition m font glyph same ∙ stepped_to.counted

-- A result that isn't a step: all steps were taken.
no_step : (answer : Answer) (step : NumberedStep) → (answer ≡ answers.Step → ⊥) → is_step (answer_view answer step) ≡ false
no_step answers.Step step other = absurd (other refl)
no_step answers.Ended step other = refl
no_step answers.Limit step other = refl

pub answered_over : (limit : ℕ) (steps : List StepView) (n : ℕ) (answer : Answer) (step : NumberedStep) → (answer ≡ answers.Step → ⊥)
    → answer_view answer step ≡ turn_at limit steps n → take n (take limit steps) ≡ take limit steps
answered_over limit steps n answer step other is =
    take_all n (take limit steps) (turns_over limit steps n (ap is_step (sym is) ∙ no_step answer step other))

-- The machine after so many calls.
abbrev pub behind : MachineView → ℕ → MachineView
behind m calls = record { font = m.font; glyph = m.glyph; edition = m.edition; counted = calls; step = m.step }

pub executes_behind : (edition : Edition) (m : MachineView) (font : FontValue) (glyph calls : ℕ) → Executes edition font glyph m
    → Executes edition font glyph (behind m calls)
executes_behind edition m font glyph calls same = record { edition_is = same.edition_is; font_is = same.font_is; glyph_is = same.glyph_is }

-- How many calls are left.
pub fewer_left : (limit : ℕ) (steps : List StepView) (n counted : ℕ) → counted ≡ n + 1 → n < length (take limit steps) → limit + 1 - counted < limit + 1 - n
fewer_left limit steps n counted is within = omega (arith, is, within, length-take limit steps)

-- The end was returned: there are no steps past the limit, and all were returned.
pub record IsOver (limit : ℕ) (steps : List StepView) (n : ℕ) : Type 0 where
  pub few : length steps ≤ limit
  pub all : length steps ≤ n

get_none : (steps : List StepView) (n : ℕ) → slice_get steps n ≡ None → length steps ≤ n
get_none [] n is = omega arith
get_none (step ∷ steps) zero is = absurd (true≢false (ap is_some is))
get_none (step ∷ steps) (suc n) is = omega (arith, get_none steps n is)

is_end : TurnValue → Bool
is_end (stepped _) = false
is_end ended = true
is_end (limited _) = false

is_limit : TurnValue → Bool
is_limit (stepped _) = false
is_limit ended = false
is_limit (limited _) = true

pub ended_is : (limit : ℕ) (steps : List StepView) (n : ℕ) → ended ≡ turn_at limit steps n → IsOver limit steps n
unfolding is_end
ended_is limit steps n is = by_place (nat_lt n limit) (slice_get steps n) (slice_get steps limit) refl refl refl (is ∙ turn_by_limit limit steps n)
  where
    by_place : (b : Bool) (o p : Option StepView) → nat_lt n limit ≡ b → slice_get steps n ≡ o → slice_get steps limit ≡ p
        → ended ≡ cond b (step_or_end n o) (limit_or_end limit p) → IsOver limit steps n
    by_place true None p below get past is =
        let all : length steps ≤ n = get_none steps n get in
        record { few = omega (arith, all, ltb-true n limit below); all = all }
    by_place true (Some step) p below get past is = absurd (true≢false (ap is_end is))
    by_place false o None above get past is =
        let few : length steps ≤ limit = get_none steps limit past in
        record { few = few; all = omega (arith, few, ltb-false n limit above) }
    by_place false o (Some step) above get past is = absurd (true≢false (ap is_end is))

-- The limit was returned: it is the first step past it.
pub record IsLimited (limit : ℕ) (steps : List StepView) (n : ℕ) (answer : NumberedStep) : Type 0 where
  pub past : limit ≤ n
  pub within : limit < length steps
  pub there : slice_get steps limit ≡ Some answer.step
  pub number : answer.number ≡ limit + 1

limit_in : NumberedStep → TurnValue → NumberedStep
limit_in default (stepped _) = default
limit_in default ended = default
limit_in default (limited step) = step

pub limited_is : (limit : ℕ) (steps : List StepView) (n : ℕ) (answer : NumberedStep) → limited answer ≡ turn_at limit steps n → IsLimited limit steps n answer
unfolding is_limit limit_in
limited_is limit steps n answer is = by_place (nat_lt n limit) (slice_get steps n) (slice_get steps limit) refl refl (is ∙ turn_by_limit limit steps n)
  where
    of_step : (step : StepView) → limit ≤ n → slice_get steps limit ≡ Some step → answer ≡ step_of_number (limit + 1) step → IsLimited limit steps n answer
    of_step step above get same =
        record {
          past = above;
          within = slice_get_within steps limit step get;
          there = get ∙ ap (λ (x : StepView). Some x) (sym (ap (λ a. a.step) same));
          number = ap (λ a. a.number) same;
        }

    by_place : (b : Bool) (o p : Option StepView) → nat_lt n limit ≡ b → slice_get steps limit ≡ p → limited answer ≡ cond b (step_or_end n o)
        (limit_or_end limit p) → IsLimited limit steps n answer
    by_place true None p below past is = absurd (true≢false (ap is_limit is))
    by_place true (Some step) p below past is = absurd (true≢false (ap is_limit is))
    by_place false o None above past is = absurd (true≢false (ap is_limit is))
    by_place false o (Some step) above past is = of_step step (ltb-false n limit above) past (ap (limit_in answer) is)
