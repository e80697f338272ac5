-- A glyph has a last step, and that finishes it.
-- A run that finished ends with the step that finished it, and each charstring's last token is its end, which finishes where no Subr is executed.
use Rattle.std.proofs.Common.{◌≡◌, ℕ, zero, suc, nat_lt, Bool, true, false, cond, Option, Some, None, List, [], ◌∷◌, ◌++◌, length, drop, arith, refl, sym, ap, ◌∙◌}
use Rattle.std.proofs.lemmas.Bool.Decides.{nat_tests}
use Rattle.t1_seal.specs.Cipher.{charstring_start, decrypted}
use Rattle.t1_font.specs.Fonts.{FontValue}
use Rattle.t1_char.specs.declared.token.CharToken.{CharToken}
use Rattle.t1_char.specs.declared.token.CharToken.TheVariants.{Command, End, Short}
use Rattle.t1_char.specs.Charstrings.{code_at, len_iv_in, tokens_in}
use Rattle.t1_char.specs.Effects.{State, CalledSubr, Action, Work, goes, calls, returns, finishes, clears, finishes_glyph, divides, calls_subr, returns_back, calls_othersubr, pops, does_finish, effect_of, is_finishing, most_calls, work_of, working}
use Rattle.t1_char.specs.Steps.{Run, StepView, after, at_start, effect_at, expansion, is_end, led_to, and_then, named_at, step_at, steps_of}
use Rattle.t1_char.specs.Laws.Steps.{GlyphsAreFinished, IsFinished, finishes_at}
use Rattle.t1_char.specs.Tokens.{charstring_tokens, more_of, random_of, token_at, tokens_behind, tokens_by}
use Rattle.t1_char.proofs.Expanding.{IsInner, open_by}

-- ---- what finishes a run is its last step

abbrev LastBehind : StepView → List StepView → Type 0
LastBehind step [] = finishes_at step.token step.path ≡ true
LastBehind step (next ∷ steps) = LastBehind next steps

abbrev LastFinishes : List StepView → Type 0
LastFinishes [] = ⊥
LastFinishes (step ∷ steps) = LastBehind step steps

last_more : (step : StepView) (steps : List StepView) → LastFinishes steps → LastFinishes (step ∷ steps)
last_more step [] h = absurd h
last_more step (next ∷ steps) h = h

last_of_both : (front steps : List StepView) → LastFinishes steps → LastFinishes (front ++ steps)
last_of_both [] steps h = h
last_of_both (step ∷ front) steps h = last_more step (front ++ steps) (last_of_both front steps h)

abbrev EndsByLast : Run → Type 0
EndsByLast run = run.finished ≡ true → LastFinishes run.steps

no_finish : (b : Bool) (a : Action) → cond b a goes ≡ finishes → (a ≡ finishes → ⊥) → ⊥
no_finish true a h isnt = isnt h
no_finish false a h isnt = cc

called_goes_on : (named : Option CalledSubr) (depth : ℕ) (s : State) → (working calls_subr named depth s).action ≡ finishes → ⊥
called_goes_on None depth s h = cc
called_goes_on (Some subr) depth s h = no_finish (nat_lt depth most_calls) (calls subr.number subr.code) h not_calls
  where
    not_calls : calls subr.number subr.code ≡ finishes → ⊥
    not_calls e = cc

work_finishes : (w : Work) (named : Option CalledSubr) (depth : ℕ) (s : State) → (working w named depth s).action ≡ finishes → does_finish w ≡ true
work_finishes clears named depth s h = cc
work_finishes finishes_glyph named depth s h = refl
work_finishes divides named depth s h = cc
work_finishes calls_subr named depth s h = absurd (called_goes_on named depth s h)
work_finishes returns_back named depth s h = absurd (no_finish (nat_lt 0 depth) returns h not_returns)
  where
    not_returns : returns ≡ finishes → ⊥
    not_returns e = cc
work_finishes calls_othersubr named depth s h = cc
work_finishes pops named depth s h = cc

finishes_by : (t : CharToken) (path : List ℕ) → is_finishing t ≡ true → finishes_at t path ≡ true
finishes_by t [] is = rw is refl
finishes_by t (_ ∷ _) is = is

finishing : (t : CharToken) (named : Option CalledSubr) (path : List ℕ) (s : State) → (effect_of t named (length path) s).action ≡ finishes
    → finishes_at t path ≡ true
finishing (Command command) named path s h = finishes_by (Command command) path (work_finishes (work_of command) named (length path) s h)
finishing End named [] s h = refl
finishing End named (number ∷ path) s h = absurd (in_subr (sym (ap (λ b. cond b returns finishes) (is_deep number path)) ∙ h))
  where
    is_deep : (first : ℕ) (rest : List ℕ) → nat_lt 0 (length (first ∷ rest)) ≡ true
    is_deep first rest = grind (arith, nat_tests)

    in_subr : returns ≡ finishes → ⊥
    in_subr e = cc
finishing _ named path s h = cc

led_by_last : (step : StepView) (x : State) (a : Action) (behind : State → Run) (called : ℕ → List ℕ → State → Run)
    → (a ≡ finishes → finishes_at step.token step.path ≡ true) →
    ((y : State) → EndsByLast (behind y)) → ((k : ℕ) (code : List ℕ) (y : State) → EndsByLast (called k code y)) → EndsByLast (led_to step x a behind called)
led_by_last step x goes behind called is one other = λ f. last_more step (behind x).steps (one x f)
led_by_last step x (calls k code) behind called is one other = λ f. last_more step (called k code x).steps (other k code x f)
led_by_last step x returns behind called is one other = λ f. absurd (not_finished f)
  where
    not_finished : false ≡ true → ⊥
    not_finished e = cc
led_by_last step x finishes behind called is one other = λ f. is refl

then_by_last : (run : Run) (next : State → Run) → EndsByLast run → ((x : State) → EndsByLast (next x)) → EndsByLast (and_then run next)
then_by_last run next one rest = by_finished run.finished run.steps run.state one
  where
    by_finished : (b : Bool) (steps : List StepView) (x : State) → (b ≡ true → LastFinishes steps)
        → EndsByLast (cond b (record { steps = steps; finished = b; state = x }) (after steps (next x)))
    by_finished true steps x ends = ends
    by_finished false steps x ends = λ f. last_of_both steps (next x).steps (rest x f)

ends_by_last : (font : FontValue) (n : ℕ) (path : List ℕ) (ts : List CharToken) (s : State) → EndsByLast (expansion font n path ts s)
unfolding expansion
ends_by_last font n path [] s = λ f. absurd (not_finished f)
  where
    not_finished : false ≡ true → ⊥
    not_finished e = cc
ends_by_last font zero path (t ∷ ts) s =
    led_by_last (step_at font path t ts s) (effect_at font path t s).state (effect_at font path t s).action _ _
    (finishing t (named_at font t s.stack) path s) (λ y. ends_by_last font zero path ts y) (λ k code y. ends_by_last font zero path ts y)
ends_by_last font (suc n) path (t ∷ ts) s =
    led_by_last (step_at font path t ts s) (effect_at font path t s).state (effect_at font path t s).action _ _
    (finishing t (named_at font t s.stack) path s) (λ y. ends_by_last font (suc n) path ts y)
    (λ k code y. then_by_last (expansion font n (path ++ k ∷ []) (tokens_in font code) y) (λ z. expansion font (suc n) path ts z)
    (ends_by_last font n (path ++ k ∷ []) (tokens_in font code) y) (λ z. ends_by_last font (suc n) path ts z))

-- ---- the tokens of a charstring are ended, and the end finishes the glyph

abbrev EndedBehind : CharToken → List CharToken → Type 0
EndedBehind t [] = is_end t ≡ true
EndedBehind t (u ∷ ts) = EndedBehind u ts

abbrev AreEnded : List CharToken → Type 0
AreEnded [] = ⊥
AreEnded (t ∷ ts) = EndedBehind t ts

ended_more : (t : CharToken) (ts : List CharToken) → AreEnded ts → AreEnded (t ∷ ts)
ended_more t [] h = absurd h
ended_more t (u ∷ ts) h = h

ended_rest : (t : CharToken) (ts : List CharToken) → AreEnded (t ∷ ts) → is_end t ≡ false → AreEnded ts
ended_rest t [] h isnt = absurd (not_both (sym h ∙ isnt))
  where
    not_both : true ≡ false → ⊥
    not_both e = cc
ended_rest t (u ∷ ts) h isnt = h

ended_behind : (n : ℕ) (bytes : List ℕ) → AreEnded (tokens_behind n bytes)
unfolding tokens_behind
ended_behind n [] = refl
ended_behind (suc n) (b ∷ rest) = ended_behind n rest
ended_behind zero (v ∷ rest) = ended_more (token_at v rest) (tokens_behind (more_of v) rest) (ended_behind (more_of v) rest)

ended_by : (random : Option ℕ) (code : List ℕ) → AreEnded (tokens_by random code)
ended_by None code = ended_behind 0 code
ended_by (Some random) code = by_length (nat_lt (length code) random)
  where
    by_length : (b : Bool) → AreEnded (cond b (Short ∷ End ∷ []) (tokens_behind 0 (drop random (decrypted charstring_start code))))
    by_length true = refl
    by_length false = ended_behind 0 (drop random (decrypted charstring_start code))

ended_in : (font : FontValue) (code : List ℕ) → AreEnded (tokens_in font code)
unfolding charstring_tokens
ended_in font code = ended_by (random_of (len_iv_in font)) code

not_back : (t : CharToken) (named : Option CalledSubr) (s : State) → (effect_of t named 0 s).action ≡ returns → ⊥
not_back (Command command) named s h = work_goes_on (work_of command) named h
  where
    called : (b : Bool) (k : ℕ) (code : List ℕ) → cond b (calls k code) goes ≡ returns → ⊥
    called true k code e = cc
    called false k code e = cc

    work_goes_on : (w : Work) (subr : Option CalledSubr) → (working w subr 0 s).action ≡ returns → ⊥
    work_goes_on clears subr e = cc
    work_goes_on finishes_glyph subr e = cc
    work_goes_on divides subr e = cc
    work_goes_on calls_subr None e = cc
    work_goes_on calls_subr (Some subr) e = called (nat_lt 0 most_calls) subr.number subr.code e
    work_goes_on returns_back subr e = cc
    work_goes_on calls_othersubr subr e = cc
    work_goes_on pops subr e = cc
not_back _ named s h = cc

led_finishes : (step : StepView) (x : State) (a : Action) (behind : State → Run) (called : ℕ → List ℕ → State → Run) → (a ≡ returns → ⊥)
    → (IsInner a → ((y : State) → (behind y).finished ≡ true) × ((k : ℕ) (code : List ℕ) (y : State) → (called k code y).finished ≡ true))
    → (led_to step x a behind called).finished ≡ true
led_finishes step x goes behind called isnt on = (on tt).0 x
led_finishes step x (calls k code) behind called isnt on = (on tt).1 k code x
led_finishes step x returns behind called isnt on = absurd (isnt refl)
led_finishes step x finishes behind called isnt on = refl

then_finishes : (run : Run) (next : State → Run) → ((x : State) → (next x).finished ≡ true) → (and_then run next).finished ≡ true
then_finishes run next rest = by_finished run.finished run.steps run.state
  where
    by_finished : (b : Bool) (steps : List StepView) (x : State)
        → (cond b (record { steps = steps; finished = b; state = x }) (after steps (next x))).finished ≡ true
    by_finished true steps x = refl
    by_finished false steps x = rest x

run_finishes : (font : FontValue) (n : ℕ) (ts : List CharToken) (s : State) → AreEnded ts → (expansion font n [] ts s).finished ≡ true
unfolding expansion
run_finishes font n [] s ended = absurd ended
run_finishes font zero (t ∷ ts) s ended =
    led_finishes (step_at font [] t ts s) (effect_at font [] t s).state (effect_at font [] t s).action _ _ (not_back t (named_at font t s.stack) s)
    (λ inner. let rest = ended_rest t ts ended (open_by t (named_at font t s.stack) 0 s inner) in
    (λ y. run_finishes font zero ts y rest, λ k code y. run_finishes font zero ts y rest))
run_finishes font (suc n) (t ∷ ts) s ended =
    led_finishes (step_at font [] t ts s) (effect_at font [] t s).state (effect_at font [] t s).action _ _ (not_back t (named_at font t s.stack) s)
    (λ inner. let rest = ended_rest t ts ended (open_by t (named_at font t s.stack) 0 s inner) in (
      λ y. run_finishes font (suc n) ts y rest,
      λ k code y. then_finishes (expansion font n (k ∷ []) (tokens_in font code) y) (λ z. expansion font (suc n) [] ts z)
          (λ z. run_finishes font (suc n) ts z rest),
    ))

-- ---- glyphs

split : (step : StepView) (steps : List StepView) → LastBehind step steps → IsFinished (step ∷ steps)
split step [] h = record { front = []; end = step; is = refl; finishes = h }
split step (next ∷ steps) h =
    let rest = split next steps h in
    record { front = step ∷ rest.front; end = rest.end; is = ap (λ l. step ∷ l) rest.is; finishes = rest.finishes }

finished_of : (steps : List StepView) → LastFinishes steps → IsFinished steps
finished_of [] h = absurd h
finished_of (step ∷ steps) h = split step steps h

pub glyphs_are_finished : GlyphsAreFinished
unfolding steps_of
glyphs_are_finished font glyph =
    let tokens = tokens_in font (code_at font glyph) in
    finished_of (expansion font most_calls [] tokens at_start).steps
    (ends_by_last font most_calls [] tokens at_start (run_finishes font most_calls tokens at_start (ended_in font (code_at font glyph))))
