-- Laws of the expansion, one step at a time: how what is left of a run goes on, by the charstrings that are
-- being executed.
use Rattle.std.specs.Prelude.{◌≡◌, ℕ, ◌<◌, List, [], ◌∷◌, ◌++◌, length}
use Rattle.t1_font.specs.Fonts.{FontValue}
use Rattle.t1_char.specs.declared.token.CharToken.{CharToken}
use Rattle.t1_char.specs.Charstrings.{code_at, tokens_in}
use Rattle.t1_char.specs.Effects.{State, goes, calls, returns, finishes, effect, most_calls}
use Rattle.t1_char.specs.Rests.{Frame, frame, steps_left}
use Rattle.t1_char.specs.Steps.{at_start, effect_at, step_at, steps_of}

-- A glyph begins with the tokens of its own charstring.
abbrev pub GlyphsBegin : Type 0
GlyphsBegin = (font : FontValue) (glyph : ℕ) →
    steps_of font glyph ≡ steps_left font (frame [] (tokens_in font (code_at font glyph)) ∷ []) at_start

-- The next token is a step. Where its effect lets the run go on, the token after it comes next.
abbrev pub TokensGoOn : Type 0
TokensGoOn =
    (font : FontValue) (path : List ℕ) (t : CharToken) (ts : List CharToken) (callers : List Frame) (s x : State) →
    effect_at font path t s ≡ effect x goes →
    steps_left font (frame path (t ∷ ts) ∷ callers) s
    ≡ step_at font path t ts s ∷ steps_left font (frame path ts ∷ callers) x

-- Where it calls a Subr, the Subr's tokens come next, and then those after the call.
abbrev pub CallsGoIn : Type 0
CallsGoIn =
    (font : FontValue) (path : List ℕ) (t : CharToken) (ts : List CharToken) (callers : List Frame) (s x : State)
    (number : ℕ) (code : List ℕ) → length path < most_calls → effect_at font path t s ≡ effect x (calls number code) →
    steps_left font (frame path (t ∷ ts) ∷ callers) s
    ≡ step_at font path t ts s
    ∷ steps_left font (frame (path ++ number ∷ []) (tokens_in font code) ∷ frame path ts ∷ callers) x

-- Where it returns, the caller goes on, and what the charstring has left isn't executed.
abbrev pub ReturnsGoBack : Type 0
ReturnsGoBack =
    (font : FontValue) (path : List ℕ) (t : CharToken) (ts : List CharToken) (callers : List Frame) (s x : State) →
    effect_at font path t s ≡ effect x returns →
    steps_left font (frame path (t ∷ ts) ∷ callers) s ≡ step_at font path t ts s ∷ steps_left font callers x

-- Where it finishes the glyph, nothing comes next.
abbrev pub EndsStop : Type 0
EndsStop =
    (font : FontValue) (path : List ℕ) (t : CharToken) (ts : List CharToken) (callers : List Frame) (s x : State) →
    effect_at font path t s ≡ effect x finishes →
    steps_left font (frame path (t ∷ ts) ∷ callers) s ≡ step_at font path t ts s ∷ []
