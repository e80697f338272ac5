-- One step of stopped frames, one lemma an action.
use Rattle.std.proofs.Common.{◌≡◌, ℕ, suc, ◌+◌, ◌-◌, ◌<◌, ◌≤◌, Bool, true, false, cond, List, [], ◌∷◌, ◌++◌, length, length-append, take, refl, ap, sym, ◌∙◌, append_assoc, append-nil, arith}
use Rattle.std.proofs.lemmas.List.{take-append-le}
use Rattle.std.proofs.Math.Seq.{take-append_seam}
use Rattle.t1_font.specs.Fonts.{FontValue}
use Rattle.t1_char.specs.declared.cursor.Cursor.{Cursor}
use Rattle.t1_char.specs.declared.token.CharToken.{CharToken}
use Rattle.t1_char.specs.Charstrings.{tokens_in}
use Rattle.t1_char.specs.Effects.{State, goes, calls, returns, finishes, effect, most_calls}
use Rattle.t1_char.specs.Steps.{Run, StepView, step_at, effect_at, nothing, only, first, after, and_then, expansion}
use Rattle.t1_char.specs.Private.Cursors.{tokens_left}
use Rattle.t1_char.specs.Rests.{Frame, frame, rest_of}
use Rattle.t1_char.specs.Private.Frames.{callers_of}
use Rattle.t1_char.proofs.Expanding.{run_goes, run_calls, run_returns, run_finishes}

first_then : (step : StepView) (run : Run) (next : State → Run) → and_then (first step run) next ≡ first step (and_then run next)
first_then step run next = by_finished run.finished run.steps run.state
  where
    by_finished : (b : Bool) (steps : List StepView) (s : State) → cond b (first step (record { steps = steps; finished = b; state = s }))
        (after (step ∷ steps) (next s)) ≡ first step (cond b (record { steps = steps; finished = b; state = s }) (after steps (next s)))
    by_finished true steps s = refl
    by_finished false steps s = refl

then_nothing : (run : Run) → and_then run nothing ≡ run
then_nothing run = by_finished run.finished run.steps run.state
  where
    with_steps : Bool → State → List StepView → Run
    with_steps b s steps = record { steps = steps; finished = b; state = s }

    by_finished : (b : Bool) (steps : List StepView) (s : State) → cond b (record { steps = steps; finished = b; state = s }) (after steps (nothing s))
        ≡ record { steps = steps; finished = b; state = s }
    by_finished true steps s = refl
    by_finished false steps s = ap (with_steps false s) (append-nil steps)

-- What follows a run that follows one.
then_again : (run : Run) (f next : State → Run) → and_then (and_then run f) next ≡ and_then run (λ s. and_then (f s) next)
then_again run f next = by_finished run.finished run.steps run.state
  where
    with_steps : Bool → State → List StepView → Run
    with_steps b s steps = record { steps = steps; finished = b; state = s }

    joined : (front : List StepView) (b : Bool) (steps : List StepView) (s : State) → and_then (after front (record { steps = steps; finished = b; state = s }))
        next ≡ after front (and_then (record { steps = steps; finished = b; state = s }) next)
    joined front true steps s = refl
    joined front false steps s = ap (with_steps (next s).finished (next s).state) (append_assoc front steps (next s).steps)

    by_finished : (b : Bool) (steps : List StepView) (s : State) → and_then (and_then (record { steps = steps; finished = b; state = s }) f) next
        ≡ and_then (record { steps = steps; finished = b; state = s }) (λ x. and_then (f x) next)
    by_finished true steps s = refl
    by_finished false steps s = joined steps (f s).finished (f s).steps (f s).state

-- The glyph's own frame is the whole expansion.
pub rest_of_one : (font : FontValue) (path : List ℕ) (ts : List CharToken) (s : State) → rest_of font (frame path ts ∷ []) s ≡ expansion font
    (most_calls - length path) path ts s
unfolding rest_of
rest_of_one font path ts s = then_nothing (expansion font (most_calls - length path) path ts s)

pub rest_goes : (font : FontValue) (path : List ℕ) (t : CharToken) (ts : List CharToken) (frames : List Frame) (s x : State)
    → effect_at font path t s ≡ effect x goes → rest_of font (frame path (t ∷ ts) ∷ frames) s ≡ first (step_at font path t ts s)
    (rest_of font (frame path ts ∷ frames) x)
unfolding rest_of
rest_goes font path t ts frames s x is =
    ap (λ run. and_then run (λ y. rest_of font frames y)) (run_goes font (most_calls - length path) path t ts s x is)
    ∙ first_then (step_at font path t ts s) (expansion font (most_calls - length path) path ts x) (λ y. rest_of font frames y)

pub rest_calls : (font : FontValue) (path : List ℕ) (t : CharToken) (ts : List CharToken) (frames : List Frame) (s x : State) (number : ℕ) (code : List ℕ)
    → length path < most_calls → effect_at font path t s ≡ effect x (calls number code) → rest_of font (frame path (t ∷ ts) ∷ frames) s
    ≡ first (step_at font path t ts s) (rest_of font (frame (path ++ number ∷ []) (tokens_in font code) ∷ frame path ts ∷ frames) x)
unfolding rest_of
rest_calls font path t ts frames s x number code deep is =
    let n : ℕ = most_calls - length (path ++ number ∷ []) in
    let count : length (path ++ number ∷ []) ≡ length path + 1 = length-append path (number ∷ []) in
    let one_more : most_calls - length path ≡ suc n = omega arith in
    let below : State → Run = λ y. rest_of font frames y in
    let inner : Run = expansion font n (path ++ number ∷ []) (tokens_in font code) x in
    ap (λ k. and_then (expansion font k path (t ∷ ts) s) below) one_more
    ∙ ap (λ run. and_then run below) (run_calls font n path t ts s x number code is)
    ∙ first_then (step_at font path t ts s) (and_then inner (λ y. expansion font (suc n) path ts y)) below
    ∙ ap (first (step_at font path t ts s)) (then_again inner (λ y. expansion font (suc n) path ts y) below)
    ∙ ap (λ k. first (step_at font path t ts s) (and_then inner (λ y. and_then (expansion font k path ts y) below))) (sym one_more)

pub rest_returns : (font : FontValue) (path : List ℕ) (t : CharToken) (ts : List CharToken) (frames : List Frame) (s x : State)
    → effect_at font path t s ≡ effect x returns → rest_of font (frame path (t ∷ ts) ∷ frames) s ≡ first (step_at font path t ts s) (rest_of font frames x)
unfolding rest_of
rest_returns font path t ts frames s x is =
    ap (λ run. and_then run (λ y. rest_of font frames y)) (run_returns font (most_calls - length path) path t ts s x is)

pub rest_finishes : (font : FontValue) (path : List ℕ) (t : CharToken) (ts : List CharToken) (frames : List Frame) (s x : State)
    → effect_at font path t s ≡ effect x finishes → rest_of font (frame path (t ∷ ts) ∷ frames) s ≡ only (step_at font path t ts s) true x
unfolding rest_of
rest_finishes font path t ts frames s x is =
    ap (λ run. and_then run (λ y. rest_of font frames y)) (run_finishes font (most_calls - length path) path t ts s x is)

-- Callers keep their paths where the path grows.
callers_keep : (path : List ℕ) (number n : ℕ) (callers : List Cursor) → n + length callers ≤ length path
    → callers_of (path ++ number ∷ []) n callers ≡ callers_of path n callers
unfolding callers_of
callers_keep path number n [] short = refl
callers_keep path number n (caller ∷ callers) short =
    ap (λ frames. frames ++ frame (take n (path ++ number ∷ [])) (tokens_left caller) ∷ []) (callers_keep path number (n + 1) callers (omega arith))
    ∙ ap (λ front. callers_of path (n + 1) callers ++ frame front (tokens_left caller) ∷ []) (take-append-le n path (number ∷ []) (omega arith))

last_caller : (path : List ℕ) (n : ℕ) (callers : List Cursor) (caller : Cursor) → callers_of path n (callers ++ caller ∷ [])
    ≡ frame (take (n + length callers) path) (tokens_left caller) ∷ callers_of path n callers
unfolding callers_of
last_caller path n [] caller = ap (λ k. frame (take k path) (tokens_left caller) ∷ []) (omega arith)
last_caller path n (first ∷ callers) caller =
    let same : n + 1 + length callers ≡ n + suc (length callers) = omega arith in
    ap (λ frames. frames ++ frame (take n path) (tokens_left first) ∷ []) (last_caller path (n + 1) callers caller)
    ∙ ap (λ k. frame (take k path) (tokens_left caller) ∷ callers_of path (n + 1) callers ++ frame (take n path) (tokens_left first) ∷ []) same

-- The caller on top of the others.
pub caller_on_top : (path : List ℕ) (number : ℕ) (callers : List Cursor) (caller : Cursor) → length path ≡ length callers
    → callers_of (path ++ number ∷ []) 0 (callers ++ caller ∷ []) ≡ frame path (tokens_left caller) ∷ callers_of path 0 callers
caller_on_top path number callers caller even =
    let same : 0 + length callers ≡ length path = omega (arith, even) in
    last_caller (path ++ number ∷ []) 0 callers caller
    ∙ ap (λ k. frame (take k (path ++ number ∷ [])) (tokens_left caller) ∷ callers_of (path ++ number ∷ []) 0 callers) same
    ∙ ap (λ front. frame front (tokens_left caller) ∷ callers_of (path ++ number ∷ []) 0 callers) (take-append_seam path (number ∷ []))
    ∙ ap (λ frames. frame path (tokens_left caller) ∷ frames) (callers_keep path number 0 callers (omega arith))
