-- The lines of a glyph's trace, step by step.
use Rattle.std.proofs.Common.{◌≡◌, ℕ, zero, suc, ◌+◌, ◌<◌, ◌≤◌, Bool, true, false, nat_lt, if◌then◌else◌, codes, List, [], ◌∷◌, ◌++◌, length, length-take, take, drop, append-nil, append_assoc, refl, ap, sym, subst, ◌∙◌, lt-ltb, le-ltb, arith}
use Rattle.std.specs.List.{flat_map}
use Rattle.std.proofs.lemmas.Bool.{ltb-true, ltb-false}
use Rattle.std.proofs.lemmas.Grind.{flat_map-append}
use Rattle.std.proofs.lemmas.List.{take_all, take-take, take-append-drop}
use Rattle.t1_font.specs.Fonts.{FontValue}
use Rattle.t1_io.specs.Devices.{SinkState, Wrote, PutFailed}
use Rattle.t1_io.proofs.SinkLemmas.{Wrote-trans, PutFailed-first, PutFailed-second}
use Rattle.t1_char.specs.declared.edition.Edition.{Edition}
use Rattle.t1_char.specs.Editions.{limit_of}
use Rattle.t1_char.specs.Steps.{StepView, NumberedStep, first_steps, numbered, steps_of}
use Rattle.t1_char.proofs.Numbering.{numbered_more, with_number}
use Rattle.t1_char.specs.Turns.{MachineView, ended, limited, turn_at}
use Rattle.t1_char.proofs.TurnsTaken.{Executes, same_turn, IsStepped, IsOver, IsLimited, ended_is, limited_is}
use Rattle.t1_report.specs.Traces.{step_line}
use Rattle.t1_answer.specs.Traces.{trace_of, trace_text}

-- The lines of the first n steps.
abbrev pub lines_to : ℕ → List StepView → ℕ → List ℕ
lines_to limit steps n = flat_map step_line (numbered 1 (take n (take limit steps)))

abbrev limit_line : ℕ → ℕ → List ℕ
limit_line limit count = if nat_lt limit count then codes "limit\n" else []

take_numbered : (k n : ℕ) (steps : List StepView) → take k (numbered n steps) ≡ numbered n (take k steps)
take_numbered zero n steps = refl
take_numbered (suc k) n [] = refl
take_numbered (suc k) n (step ∷ steps) = ap (λ rest. with_number step n ∷ rest) (take_numbered k (n + 1) steps)

length_numbered : (n : ℕ) (steps : List StepView) → length (numbered n steps) ≡ length steps
length_numbered n [] = refl
length_numbered n (step ∷ steps) = ap (λ k. suc k) (length_numbered (n + 1) steps)

-- There are more than so many exactly where the first of them, and one, are more.
more_than : (limit : ℕ) (steps : List StepView) → nat_lt limit (length (take (limit + 1) steps)) ≡ nat_lt limit (length steps)
more_than limit steps = by_place (nat_lt limit (length steps)) refl
  where
    by_place : (b : Bool) → nat_lt limit (length steps) ≡ b → nat_lt limit (length (take (limit + 1) steps)) ≡ nat_lt limit (length steps)
    by_place true more = lt-ltb limit (length (take (limit + 1) steps)) (omega (arith, ltb-true limit (length steps) more, length-take (limit + 1) steps))
        ∙ sym more
    by_place false few = le-ltb limit (length (take (limit + 1) steps)) (omega (arith, ltb-false limit (length steps) few, length-take (limit + 1) steps))
        ∙ sym few

-- The trace by the steps of the glyph.
trace_is : (limit : ℕ) (font : FontValue) (glyph : ℕ) → trace_text limit (first_steps limit font glyph) ≡ flat_map step_line
    (numbered 1 (take limit (steps_of font glyph))) ++ limit_line limit (length (steps_of font glyph))
unfolding first_steps
trace_is limit font glyph =
    let steps : List StepView = steps_of font glyph in
    let last : List ℕ = limit_line limit (length (numbered 1 (take (limit + 1) steps))) in
    ap (λ ns. flat_map step_line ns ++ last) (take_numbered limit 1 (take (limit + 1) steps))
    ∙ ap (λ ss. flat_map step_line (numbered 1 ss) ++ last) (take-take limit (limit + 1) steps (omega arith))
    ∙ ap (λ k. flat_map step_line (numbered 1 (take limit steps)) ++ limit_line limit k) (length_numbered 1 (take (limit + 1) steps))
    ∙ ap (λ (b : Bool). flat_map step_line (numbered 1 (take limit steps)) ++ (if b then codes "limit\n" else [])) (more_than limit steps)

-- One line more.
line_more : (limit : ℕ) (steps : List StepView) (n : ℕ) (step : NumberedStep) → IsStepped limit steps n step → lines_to limit steps (n + 1)
    ≡ lines_to limit steps n ++ step_line step
line_more limit steps n step is =
    let front : List StepView = take n (take limit steps) in
    let number : 1 + length front ≡ step.number = omega (arith, is.number, is.within, length-take n (take limit steps)) in
    ap (λ ss. flat_map step_line (numbered 1 ss)) is.more
    ∙ ap (flat_map step_line) (numbered_more 1 front step.step)
    ∙ flat_map-append step_line (numbered 1 front) (with_number step.step (1 + length front) ∷ [])
    ∙ ap (λ text. lines_to limit steps n ++ text) (append-nil (step_line (with_number step.step (1 + length front))))
    ∙ ap (λ k. lines_to limit steps n ++ step_line (with_number step.step k)) number

-- What follows the lines of the first n steps.
rest_behind : ℕ → List StepView → ℕ → List ℕ
rest_behind limit steps n = flat_map step_line (drop n (numbered 1 (take limit steps))) ++ limit_line limit (length steps)

trace_splits : (limit : ℕ) (font : FontValue) (glyph n : ℕ) → trace_text limit (first_steps limit font glyph) ≡ lines_to limit (steps_of font glyph)
    n ++ rest_behind limit (steps_of font glyph) n
unfolding rest_behind
trace_splits limit font glyph n =
    let steps : List StepView = steps_of font glyph in
    let all : List NumberedStep = numbered 1 (take limit steps) in
    trace_is limit font glyph
    ∙ ap (λ ns. flat_map step_line ns ++ limit_line limit (length steps)) (sym (take-append-drop n all))
    ∙ ap (λ text. text ++ limit_line limit (length steps)) (flat_map-append step_line (take n all) (drop n all))
    ∙ append_assoc (flat_map step_line (take n all)) (flat_map step_line (drop n all)) (limit_line limit (length steps))
    ∙ ap (λ ns. flat_map step_line ns ++ rest_behind limit steps n) (take_numbered n 1 (take limit steps))

pub wrote_step : (limit : ℕ) (steps : List StepView) (n : ℕ) (step : NumberedStep) (a b c : SinkState) → IsStepped limit steps n step
    → Wrote a b (lines_to limit steps n) → Wrote b c (step_line step) → Wrote a c (lines_to limit steps (n + 1))
wrote_step limit steps n step a b c is before more =
    subst (Wrote a c) (sym (line_more limit steps n step is)) (Wrote-trans a b c (lines_to limit steps n) (step_line step) before more)

pub step_failed : (limit : ℕ) (font : FontValue) (glyph n : ℕ) (step : NumberedStep) (a b c : SinkState) → IsStepped limit (steps_of font glyph) n step
    → Wrote a b (lines_to limit (steps_of font glyph) n) → PutFailed b c (step_line step) → PutFailed a c (trace_text limit (first_steps limit font glyph))
step_failed limit font glyph n step a b c is before broke =
    let steps : List StepView = steps_of font glyph in
    subst (PutFailed a c) (sym (trace_splits limit font glyph (n + 1)))
    (PutFailed-first a c (lines_to limit steps (n + 1)) (rest_behind limit steps (n + 1))
    (subst (PutFailed a c) (sym (line_more limit steps n step is)) (PutFailed-second a b c (lines_to limit steps n) (step_line step) before broke)))

-- The whole trace, where there are no more steps, and where there are.
trace_over : (limit : ℕ) (font : FontValue) (glyph n : ℕ) → IsOver limit (steps_of font glyph) n → trace_text limit (first_steps limit font glyph)
    ≡ lines_to limit (steps_of font glyph) n
trace_over limit font glyph n over =
    let steps : List StepView = steps_of font glyph in
    trace_is limit font glyph
    ∙ ap (λ (b : Bool). flat_map step_line (numbered 1 (take limit steps)) ++ (if b then codes "limit\n" else [])) (le-ltb limit (length steps) over.few)
    ∙ append-nil (flat_map step_line (numbered 1 (take limit steps)))
    ∙ ap (λ ss. flat_map step_line (numbered 1 ss)) (sym (take_all n (take limit steps) (omega (arith, over.all, length-take limit steps))))

trace_limited : (limit : ℕ) (font : FontValue) (glyph n : ℕ) → (limit < length (steps_of font glyph)) × (limit ≤ n)
    → trace_text limit (first_steps limit font glyph) ≡ lines_to limit (steps_of font glyph) n ++ codes "limit\n"
trace_limited limit font glyph n (more, past) =
    let steps : List StepView = steps_of font glyph in
    trace_is limit font glyph
    ∙ ap (λ (b : Bool). flat_map step_line (numbered 1 (take limit steps)) ++ (if b then codes "limit\n" else [])) (lt-ltb limit (length steps) more)
    ∙ ap (λ ss. flat_map step_line (numbered 1 ss) ++ codes "limit\n") (sym (take_all n (take limit steps) (omega (arith, past, length-take limit steps))))

-- The same of a machine that executes this glyph of this font by this edition.
pub trace_ended : (edition : Edition) (m : MachineView) (font : FontValue) (glyph : ℕ) → Executes edition font glyph m
    → ended ≡ turn_at (limit_of m.edition) (steps_of m.font m.glyph) m.counted → trace_of edition font glyph ≡ lines_to (limit_of edition)
    (steps_of font glyph) m.counted
trace_ended edition m font glyph same is =
    trace_over (limit_of edition) font glyph m.counted (ended_is (limit_of edition) (steps_of font glyph) m.counted (is ∙ same_turn edition m font glyph same))

pub trace_past : (edition : Edition) (m : MachineView) (font : FontValue) (glyph : ℕ) (step : NumberedStep) → Executes edition font glyph m
    → limited step ≡ turn_at (limit_of m.edition) (steps_of m.font m.glyph) m.counted → trace_of edition font glyph ≡ lines_to (limit_of edition)
    (steps_of font glyph) m.counted ++ codes "limit\n"
trace_past edition m font glyph step same is =
    let at : IsLimited (limit_of edition) (steps_of font glyph) m.counted step = limited_is (limit_of edition) (steps_of font glyph) m.counted step
    (is ∙ same_turn edition m font glyph same) in
    trace_limited (limit_of edition) font glyph m.counted (at.within, at.past)
