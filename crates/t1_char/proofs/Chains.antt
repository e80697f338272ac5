-- The path and the state of each step are those that the effect of the one before leads to.
use Rattle.std.proofs.Common.{◌≡◌, ℕ, zero, suc, ◌+◌, ◌-◌, ◌<◌, nat_lt, Bool, true, false, cond, Option, Some, None, List, [], ◌∷◌, ◌++◌, length, length-append, take, drop, refl, ap, sym, subst, ◌∙◌, arith}
use Rattle.std.proofs.Math.Seq.{take-append_seam}
use Rattle.std.proofs.lemmas.Bool.{ltb-true}
use Rattle.t1_font.specs.Fonts.{FontValue}
use Rattle.t1_seal.specs.Cipher.{charstring_start, decrypted}
use Rattle.t1_char.specs.declared.command.Command.TheVariants.{Callsubr, Return}
use Rattle.t1_char.specs.declared.token.CharToken.{CharToken}
use Rattle.t1_char.specs.declared.token.CharToken.TheVariants.{Command, End, Short}
use Rattle.t1_char.specs.Charstrings.{code_at, len_iv_in, tokens_in}
use Rattle.t1_char.specs.Effects.{State, CalledSubr, Action, goes, calls, returns, finishes, effect_of, most_calls}
use Rattle.t1_char.specs.Tokens.{charstring_tokens, more_of, random_of, token_at, tokens_behind, tokens_by, tokens_of}
use Rattle.t1_char.specs.Steps.{Run, StepView, after, and_then, at_start, effect_at, expansion, is_end, led_to, named_at, step_at, steps_of}
use Rattle.t1_char.specs.Laws.Steps.{GoOnFrom, StandsIn, StepsGoOn, path_behind}
use Rattle.t1_char.proofs.Expanding.{IsInner, open_by}

-- ---- tokens end with End

abbrev HasEnd : List CharToken → Type 0
HasEnd [] = ⊥
HasEnd (t ∷ []) = is_end t ≡ true
HasEnd (t ∷ u ∷ ts) = HasEnd (u ∷ ts)

end_in_front : (t : CharToken) (ts : List CharToken) → HasEnd ts → HasEnd (t ∷ ts)
end_in_front t [] h = absurd h
end_in_front t (u ∷ ts) h = h

end_behind : (t : CharToken) (ts : List CharToken) → HasEnd (t ∷ ts) → is_end t ≡ false → HasEnd ts
end_behind t [] h goes_on = let no : false ≡ true = sym goes_on ∙ h in cc
end_behind t (u ∷ ts) h goes_on = h

behind_have : (n : ℕ) (bytes : List ℕ) → HasEnd (tokens_behind n bytes)
unfolding tokens_behind
behind_have n [] = refl
behind_have (suc n) (b ∷ rest) = behind_have n rest
behind_have zero (v ∷ rest) = end_in_front (token_at v rest) (tokens_behind (more_of v) rest) (behind_have (more_of v) rest)

tokens_have : (random : Option ℕ) (code : List ℕ) → HasEnd (tokens_by random code)
tokens_have None code = behind_have 0 code
tokens_have (Some random) code = by_length (nat_lt (length code) random)
  where
    by_length : (b : Bool) → HasEnd (cond b (Short ∷ End ∷ []) (tokens_of (drop random (decrypted charstring_start code))))
    by_length true = refl
    by_length false = behind_have 0 (drop random (decrypted charstring_start code))

charstrings_have : (font : FontValue) (code : List ℕ) → HasEnd (tokens_in font code)
unfolding charstring_tokens
charstrings_have font code = tokens_have (random_of (len_iv_in font)) code

-- ---- a call is made at a depth below ten

called_below : (t : CharToken) (named : Option CalledSubr) (depth : ℕ) (s : State) (k : ℕ) (code : List ℕ) → (effect_of t named depth s).action ≡ calls k code
    → depth < 10
called_below (Command Callsubr) None depth s k code e = let no : goes ≡ calls k code = e in cc
called_below (Command Callsubr) (Some subr) depth s k code e = by_depth (nat_lt depth most_calls) refl e
  where
    by_depth : (b : Bool) → nat_lt depth most_calls ≡ b → cond b (calls subr.number subr.code) goes ≡ calls k code → depth < 10
    by_depth true is same = ltb-true depth most_calls is
    by_depth false is same = let no : goes ≡ calls k code = same in cc
called_below (Command Return) named depth s k code e = by_depth (nat_lt 0 depth) e
  where
    by_depth : (b : Bool) → cond b returns goes ≡ calls k code → depth < 10
    by_depth true same = let no : returns ≡ calls k code = same in cc
    by_depth false same = let no : goes ≡ calls k code = same in cc
called_below End named depth s k code e = by_depth (nat_lt 0 depth) e
  where
    by_depth : (b : Bool) → cond b returns finishes ≡ calls k code → depth < 10
    by_depth true same = let no : returns ≡ calls k code = same in cc
    by_depth false same = let no : finishes ≡ calls k code = same in cc
called_below _ named depth s k code e = cc

-- ---- chains of steps

-- The same, and the last leads to this path and state.
abbrev Chain : FontValue → List ℕ → State → List StepView → List ℕ → State → Type 0
Chain font path s [] last left = (path ≡ last) × (s ≡ left)
Chain font path s (step ∷ steps) last left =
    StandsIn step path s
    × Chain font (path_behind path (effect_at font path step.token s).action) (effect_at font path step.token s).state steps last left

chain_both : (font : FontValue) (xs ys : List StepView) (path : List ℕ) (s : State) (middle : List ℕ) (x : State) (last : List ℕ) (left : State)
    → Chain font path s xs middle x → Chain font middle x ys last left → Chain font path s (xs ++ ys) last left
chain_both font [] ys path s middle x last left one other =
    subst (λ p. Chain font p s ys last left) (sym one.0) (subst (λ z. Chain font middle z ys last left) (sym one.1) other)
chain_both font (step ∷ xs) ys path s middle x last left one other =
    (one.0, chain_both font xs ys _ _ middle x last left one.1 other)

goes_on : (font : FontValue) (steps : List StepView) (path : List ℕ) (s : State) (last : List ℕ) (left : State) → Chain font path s steps last left
    → GoOnFrom font path s steps
goes_on font [] path s last left chain = tt
goes_on font (step ∷ steps) path s last left chain = (chain.0, goes_on font steps _ _ last left chain.1)

-- The steps of a run are such, and where it isn't finished they lead to this path.
abbrev Chains : FontValue → List ℕ → State → List StepView → Bool → State → List ℕ → Type 0
Chains font path s steps finished left target =
    (last : List ℕ) × (Chain font path s steps last left × (finished ≡ false → last ≡ target))

abbrev ChainsRun : FontValue → List ℕ → State → Run → List ℕ → Type 0
ChainsRun font path s run target = Chains font path s run.steps run.finished run.state target

abbrev up : List ℕ → List ℕ
up path = take (length path - 1) path

up_one : (path : List ℕ) (k : ℕ) → up (path ++ k ∷ []) ≡ path
up_one path k =
    let long : length (path ++ k ∷ []) - 1 ≡ length path = omega (arith, length-append path (k ∷ [])) in
    ap (λ n. take n (path ++ k ∷ [])) long ∙ take-append_seam path (k ∷ [])

stands : (font : FontValue) (path : List ℕ) (t : CharToken) (ts : List CharToken) (s : State) → StandsIn (step_at font path t ts s) path s
stands font path t ts s = record { path_is = refl; stack_is = refl; waiting_is = refl }

led_chain : (font : FontValue) (path : List ℕ) (t : CharToken) (ts : List CharToken) (s : State) (a : Action) (behind : State → Run)
    (called : ℕ → List ℕ → State → Run)
    → (effect_at font path t s).action ≡ a
    → ((y : State) → a ≡ goes → ChainsRun font path y (behind y) (up path))
    → ((k : ℕ) (code : List ℕ) (y : State) → a ≡ calls k code → ChainsRun font (path ++ k ∷ []) y (called k code y) (up path))
    → ChainsRun font path s (led_to (step_at font path t ts s) (effect_at font path t s).state a behind called) (up path)
led_chain font path t ts s goes behind called is one other =
    let x : State = (effect_at font path t s).state in
    let rest = one x refl in
    (rest.0, ((stands font path t ts s, subst (λ a. Chain font (path_behind path a) x (behind x).steps rest.0 (behind x).state) (sym is) rest.1.0), rest.1.1))
led_chain font path t ts s (calls k code) behind called is one other =
    let x : State = (effect_at font path t s).state in
    let rest = other k code x refl in (
      rest.0,
      (
        (
          stands font path t ts s,
          subst (λ a. Chain font (path_behind path a) x (called k code x).steps rest.0 (called k code x).state)
              (sym is) rest.1.0,
        ),
        rest.1.1,
      ),
    )
led_chain font path t ts s returns behind called is one other =
    (up path, ((stands font path t ts s, (ap (path_behind path) is, refl)), λ e. refl))
led_chain font path t ts s finishes behind called is one other =
    (path, ((stands font path t ts s, (ap (path_behind path) is, refl)), λ e. let no : true ≡ false = e in cc))

chains_then : (font : FontValue) (path : List ℕ) (s : State) (run : Run) (next : State → Run) (middle target : List ℕ)
    → ChainsRun font path s run middle → ((x : State) → ChainsRun font middle x (next x) target) → ChainsRun font path s (and_then run next) target
chains_then font path s run next middle target one rest = by_finished run.finished run.steps run.state one
  where
    by_finished : (b : Bool) (steps : List StepView) (x : State) → Chains font path s steps b x middle
        → ChainsRun font path s (cond b (record { steps = steps; finished = b; state = x }) (after steps (next x))) target
    by_finished true steps x these = (these.0, (these.1.0, λ e. let no : true ≡ false = e in cc))
    by_finished false steps x these =
        let those = rest x in (
          those.0,
          (
            chain_both font steps (next x).steps path s middle x those.0 (next x).state
                (subst (λ p. Chain font path s steps p x) (these.1.1 refl) these.1.0) those.1.0,
            those.1.1,
          ),
        )

chain_of : (font : FontValue) (n : ℕ) (path : List ℕ) (ts : List CharToken) (s : State) → length path + n ≡ 10 → HasEnd ts
    → ChainsRun font path s (expansion font n path ts s) (up path)
unfolding expansion
chain_of font n path [] s deep ends = absurd ends
chain_of font zero path (t ∷ ts) s deep ends =
    led_chain font path t ts s (effect_at font path t s).action _ _ refl
    (λ y is. chain_of font zero path ts y deep (end_behind t ts ends (open_by t (named_at font t s.stack) (length path) s (subst IsInner (sym is) tt))))
    (λ k code y is. let below : length path < 10 = called_below t (named_at font t s.stack) (length path) s k code is in absurd (omega arith))
chain_of font (suc n) path (t ∷ ts) s deep ends =
    led_chain font path t ts s (effect_at font path t s).action _ _ refl
    (λ y is. chain_of font (suc n) path ts y deep (end_behind t ts ends (open_by t (named_at font t s.stack) (length path) s (subst IsInner (sym is) tt))))
    (λ k code y is. chains_then font (path ++ k ∷ []) y (expansion font n (path ++ k ∷ []) (tokens_in font code) y)
    (λ z. expansion font (suc n) path ts z) path (up path)
    (subst (λ p. ChainsRun font (path ++ k ∷ []) y (expansion font n (path ++ k ∷ []) (tokens_in font code) y) p) (up_one path k)
    (chain_of font n (path ++ k ∷ []) (tokens_in font code) y (omega (arith, length-append path (k ∷ []))) (charstrings_have font code)))
    (λ z. chain_of font (suc n) path ts z deep (end_behind t ts ends (open_by t (named_at font t s.stack) (length path) s (subst IsInner (sym is) tt)))))

pub steps_go_on : StepsGoOn
unfolding steps_of
steps_go_on font glyph =
    let chain = chain_of font most_calls [] (tokens_in font (code_at font glyph)) at_start refl (charstrings_have font (code_at font glyph)) in
    goes_on font _ [] at_start chain.0 _ chain.1.0
