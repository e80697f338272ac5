-- What executing its step leaves of frames, one lemma an action.
use Rattle.std.proofs.Common.{◌≡◌, ℕ, zero, suc, ℤ, ◌+◌, ◌-◌, ◌<◌, true, Option, List, [], ◌∷◌, ◌++◌, length, length-append, take, refl, ap, sym, subst, ◌∙◌, arith}
use Rattle.t1_font.specs.Fonts.{FontValue}
use Rattle.t1_char.specs.declared.command.Command.TheVariants.{Callsubr}
use Rattle.t1_char.specs.declared.cursor.Cursor.{Cursor}
use Rattle.t1_char.specs.declared.frames.Frames.{Frames}
use Rattle.t1_char.specs.declared.token.CharToken.{CharToken}
use Rattle.t1_char.specs.declared.token.CharToken.TheVariants.{Command, Cut, Number}
use Rattle.t1_char.specs.Charstrings.{code_at, tokens_in}
use Rattle.t1_char.specs.Effects.{State, CalledSubr, Action, goes, calls, returns, finishes, effect, effect_of, most_calls, state_of}
use Rattle.t1_char.specs.Steps.{StepView, at_start, is_callsubr, named_at, effect_at, step_at, steps_of}
use Rattle.t1_char.specs.Private.Actions.{named_of}
use Rattle.t1_char.specs.Private.Cursors.{tokens_left}
use Rattle.t1_char.specs.Rests.{frame, rest_of}
use Rattle.t1_char.specs.Private.Frames.{IsReady, frames_with, left_behind, callers_of, state_in, step_here, steps_from, steps_behind}
use Rattle.t1_char.specs.Private.Plain.{GoesOverOne, IsPlainEffect, PassesNumber}
use Rattle.t1_char.proofs.Expanding.{IsInner, open_by, behind_open}
use Rattle.t1_char.proofs.Rests.{rest_of_one, rest_goes, rest_calls, rest_returns, rest_finishes, caller_on_top}

-- The Subr that is named matters to callsubr alone.
effect_named : (t : CharToken) (a b : Option CalledSubr) (depth : ℕ) (s : State) → (is_callsubr t ≡ true → a ≡ b)
    → effect_of t a depth s ≡ effect_of t b depth s
effect_named (Command Callsubr) a b depth s same = ap (λ named. effect_of (Command Callsubr) named depth s) (same refl)
effect_named _ a b depth s same = refl

-- What the step's token does.
ready_effect : (font : FontValue) (f : Frames) (x : State) (action : Action) → IsReady font f → effect x action ≡ effect_of f.step.token (named_of f.named)
    (length f.step.path.items) (state_in f) → effect_at font f.step.path.items f.step.token (state_in f) ≡ effect x action
ready_effect font f x action ready is =
    effect_named f.step.token (named_at font f.step.token f.step.stack) (named_of f.named) (length f.step.path.items) (state_in f)
    (λ calls_subr. sym (ready.named calls_subr)) ∙ sym is

pub effect_at_depth : (f : Frames) (depth : ℕ) → depth ≡ length f.step.path.items → effect_of f.step.token (named_of f.named) depth (state_in f) ≡ effect_of
    f.step.token (named_of f.named) (length f.step.path.items) (state_in f)
effect_at_depth f depth is = ap (λ d. effect_of f.step.token (named_of f.named) d (state_in f)) is

-- What follows a token that goes on or calls.
left_open : (f : Frames) (x : State) (action : Action) → IsInner action → effect x action ≡ effect_of f.step.token (named_of f.named) (length f.step.path.items)
    (state_in f) → left_behind f ≡ tokens_left f.current
left_open f x action inner is =
    behind_open f.step.token (tokens_left f.current)
    (open_by f.step.token (named_of f.named) (length f.step.path.items) (state_in f) (subst IsInner (ap (λ e. e.action) is) inner))

abbrev of_left : FontValue → Frames → State → List CharToken → List StepView
of_left font f x left = step_here font f ∷ (rest_of font (frames_with f left) x).steps

pub executed_goes : (font : FontValue) (f : Frames) (x : State) → IsReady font f → effect x goes ≡ effect_of f.step.token (named_of f.named)
    (length f.step.path.items) (state_in f) → steps_from font f ≡ of_left font f x (tokens_left f.current)
executed_goes font f x ready is =
    ap (λ run. run.steps) (rest_goes font f.step.path.items f.step.token (left_behind f) (callers_of f.step.path.items 0 f.callers.items) (state_in f) x
    (ready_effect font f x goes ready is))
    ∙ ap (of_left font f x) (left_open f x goes tt is)

pub executed_calls : (font : FontValue) (f new : Frames) (number : ℕ) (code : List ℕ) → IsReady font f → length f.step.path.items < most_calls →
    effect (state_in new) (calls number code) ≡ effect_of f.step.token (named_of f.named) (length f.step.path.items) (state_in f) →
    new.step.path.items ≡ f.step.path.items ++ number ∷ [] → new.callers.items ≡ f.callers.items ++ f.current ∷ []
    → tokens_left new.current ≡ tokens_in font code →
    steps_from font f ≡ step_here font f ∷ steps_behind font new
executed_calls font f new number code ready deep is path callers current =
    let x : State = state_in new in
    let old : List ℕ = f.step.path.items in
    ap (λ run. run.steps) (rest_calls font old f.step.token (left_behind f) (callers_of old 0 f.callers.items) (state_in f) x number code deep
    (ready_effect font f x (calls number code) ready is))
    ∙ ap (λ left. step_here font f ∷ (rest_of font (frame (old ++ number ∷ []) (tokens_in font code) ∷ frame old left ∷ callers_of old 0 f.callers.items)
    x).steps) (left_open f x (calls number code) tt is)
    ∙ ap (λ frames. step_here font f ∷ (rest_of font (frame (old ++ number ∷ []) (tokens_in font code) ∷ frames) x).steps)
    (sym (caller_on_top old number f.callers.items f.current ready.even))
    ∙ ap (λ left. step_here font f ∷ (rest_of font
    (frame (old ++ number ∷ []) left ∷ callers_of (old ++ number ∷ []) 0 (f.callers.items ++ f.current ∷ [])) x).steps) (sym current)
    ∙ ap (λ all. step_here font f ∷ (rest_of font (frame (old ++ number ∷ []) (tokens_left new.current) ∷ callers_of (old ++ number ∷ []) 0 all) x).steps)
    (sym callers)
    ∙ ap (λ whole. step_here font f ∷ (rest_of font (frame whole (tokens_left new.current) ∷ callers_of whole 0 new.callers.items) x).steps) (sym path)

-- A path without its last.
shorter : (n : ℕ) (path : List ℕ) → length path ≡ n + 1 → (number : ℕ) × (path ≡ take n path ++ number ∷ [])
shorter n [] is = absurd (omega (arith, is))
shorter zero (number ∷ []) is = (number, refl)
shorter zero (number ∷ other ∷ path) is = absurd (omega (arith, is))
shorter (suc n) (number ∷ path) is =
    let more = shorter n path (omega (arith, is)) in
    (more.0, ap (λ rest. number ∷ rest) more.1)

pub executed_returns : (font : FontValue) (f new : Frames) → IsReady font f →
    effect (state_in new) returns ≡ effect_of f.step.token (named_of f.named) (length f.step.path.items) (state_in f) →
    new.step.path.items ≡ take (length f.step.path.items - 1) f.step.path.items → f.callers.items ≡ new.callers.items ++ new.current ∷ [] →
    steps_from font f ≡ step_here font f ∷ steps_behind font new
executed_returns font f new ready is path callers =
    let x : State = state_in new in
    let old : List ℕ = f.step.path.items in
    let count : length f.callers.items ≡ length new.callers.items + 1 = ap (λ l. length l) callers ∙ length-append new.callers.items (new.current ∷ []) in
    let n : ℕ = length new.callers.items in
    let front : new.step.path.items ≡ take n old = path ∙ ap (λ k. take k old) (omega (arith, ready.even, count)) in
    let split = shorter n old (ready.even ∙ count) in
    let whole : old ≡ new.step.path.items ++ split.0 ∷ [] = split.1 ∙ ap (λ start. start ++ split.0 ∷ []) (sym front) in
    let long : length old ≡ length new.step.path.items + 1 = ap (λ l. length l) whole ∙ length-append new.step.path.items (split.0 ∷ []) in
    let even : length new.step.path.items ≡ n = omega (arith, ready.even, count, long) in
    ap (λ run. run.steps) (rest_returns font old f.step.token (left_behind f) (callers_of old 0 f.callers.items) (state_in f) x
    (ready_effect font f x returns ready is))
    ∙ ap (λ all. step_here font f ∷ (rest_of font (callers_of old 0 all) x).steps) callers
    ∙ ap (λ front. step_here font f ∷ (rest_of font (callers_of front 0 (new.callers.items ++ new.current ∷ [])) x).steps) whole
    ∙ ap (λ frames. step_here font f ∷ (rest_of font frames x).steps) (caller_on_top new.step.path.items split.0 new.callers.items new.current even)

pub executed_finishes : (font : FontValue) (f : Frames) (x : State) → IsReady font f → effect x finishes ≡ effect_of f.step.token (named_of f.named)
    (length f.step.path.items) (state_in f) → steps_from font f ≡ step_here font f ∷ []
executed_finishes font f x ready is =
    ap (λ run. run.steps) (rest_finishes font f.step.path.items f.step.token (left_behind f) (callers_of f.step.path.items 0 f.callers.items) (state_in f) x
    (ready_effect font f x finishes ready is))

-- A machine starts before a step that does nothing, and after it are all steps of the glyph.
abbrev StandsBefore : FontValue → List StepView → List ℕ → List Cursor → List ℤ → List ℤ → List CharToken → Type 0
StandsBefore font steps path callers stack waiting left =
    (rest_of font (frame path (Cut ∷ left) ∷ callers_of path 0 callers) (state_of stack waiting)).steps ≡ step_at font path Cut left
    (state_of stack waiting) ∷ steps

before_all : (font : FontValue) (glyph : ℕ) → StandsBefore font (steps_of font glyph) [] [] [] [] (tokens_in font (code_at font glyph))
unfolding steps_of callers_of
before_all font glyph =
    let left : List CharToken = tokens_in font (code_at font glyph) in
    ap (λ run. run.steps) (rest_goes font [] Cut left [] at_start at_start refl)
    ∙ ap (λ run. step_at font [] Cut left at_start ∷ run.steps) (rest_of_one font [] left at_start)

pub stands_before : (font : FontValue) (glyph : ℕ) (path : List ℕ) (callers : List Cursor) (stack waiting : List ℤ) (left : List CharToken) → path ≡ []
    → callers ≡ [] → stack ≡ [] → waiting ≡ [] → left ≡ tokens_in font (code_at font glyph) → StandsBefore font (steps_of font glyph)
    path callers stack waiting left
stands_before font glyph path callers stack waiting left no_path no_callers no_stack no_waiting code =
    let all : List StepView = steps_of font glyph in
    subst (λ p. StandsBefore font all p callers stack waiting left) (sym no_path)
    (subst (λ cs. StandsBefore font all [] cs stack waiting left) (sym no_callers)
    (subst (λ zs. StandsBefore font all [] [] zs waiting left) (sym no_stack)
    (subst (λ zs. StandsBefore font all [] [] [] zs left) (sym no_waiting)
    (subst (λ ts. StandsBefore font all [] [] [] [] ts) (sym code) (before_all font glyph)))))

-- The step was executed, and the run goes on with what follows it.
pub executed_plain : (font : FontValue) (f : Frames) (stack : List ℤ) → IsReady font f → IsPlainEffect f.step.token f.step.stack stack
    → steps_from font f ≡ of_left font f (state_of stack f.waiting.items) (tokens_left f.current)
executed_plain font f stack ready plain =
    executed_goes font f (state_of stack f.waiting.items) ready (plain (named_of f.named) (length f.step.path.items) f.waiting.items)

-- A number followed it, and was executed.
pub goes_over_one : (font : FontValue) (f new : Frames) → PassesNumber f.current new.current f.step.stack new.step.stack →
    new.step.path.items ≡ f.step.path.items → new.callers.items ≡ f.callers.items → new.waiting.items ≡ f.waiting.items →
    GoesOverOne font f new
goes_over_one font f new is path callers waiting =
    let old : List ℕ = f.step.path.items in
    let t : CharToken = Number is.number in
    let x : State = state_of new.step.stack f.waiting.items in
    let left : List CharToken = tokens_left new.current in
    let here : StepView = step_at font old t left (state_in f) in
    record {
      number = is.number;
      room = is.room;
      behind =
          ap (λ tokens. (rest_of font (frames_with f tokens) (state_in f)).steps) is.token
          ∙ ap (λ run. run.steps) (rest_goes font old t left (callers_of old 0 f.callers.items) (state_in f) x
          (sym (is.plain (named_at font t f.step.stack) (length old) f.waiting.items)))
          ∙ ap (λ all. here ∷ (rest_of font (frame old left ∷ callers_of old 0 all) x).steps) (sym callers)
          ∙ ap (λ p. here ∷ (rest_of font (frame p left ∷ callers_of p 0 new.callers.items) x).steps) (sym path)
          ∙ ap (λ zs. here ∷ (rest_of font (frame new.step.path.items left ∷ callers_of new.step.path.items 0 new.callers.items)
          (state_of new.step.stack zs)).steps) (sym waiting);
      path = path;
      callers = callers;
    }

-- The same of any token that goes on.
pub token_over : (font : FontValue) (f new : Frames) (t : CharToken) → tokens_left f.current ≡ t ∷ tokens_left new.current
    → IsPlainEffect t f.step.stack new.step.stack → new.step.path.items ≡ f.step.path.items → new.callers.items ≡ f.callers.items
    → new.waiting.items ≡ f.waiting.items →
    steps_behind font f ≡ step_at font f.step.path.items t (tokens_left new.current) (state_in f) ∷ steps_behind font new
token_over font f new t token plain path callers waiting =
    let old : List ℕ = f.step.path.items in
    let x : State = state_of new.step.stack f.waiting.items in
    let left : List CharToken = tokens_left new.current in
    let here : StepView = step_at font old t left (state_in f) in
    ap (λ tokens. (rest_of font (frames_with f tokens) (state_in f)).steps) token
    ∙ ap (λ run. run.steps) (rest_goes font old t left (callers_of old 0 f.callers.items) (state_in f) x
    (sym (plain (named_at font t f.step.stack) (length old) f.waiting.items)))
    ∙ ap (λ all. here ∷ (rest_of font (frame old left ∷ callers_of old 0 all) x).steps) (sym callers)
    ∙ ap (λ p. here ∷ (rest_of font (frame p left ∷ callers_of p 0 new.callers.items) x).steps) (sym path)
    ∙ ap (λ zs. here ∷ (rest_of font (frame new.step.path.items left ∷ callers_of new.step.path.items 0 new.callers.items)
    (state_of new.step.stack zs)).steps) (sym waiting)
