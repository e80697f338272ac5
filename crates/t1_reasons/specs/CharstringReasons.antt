-- Why a step breaks a rule, where the charstring in which the step is tells that.
use Rattle.std.specs.Prelude.{◌≡◌, ◌<ℤ◌, true, ℕ, pos, ◌-◌, Option, Some, None, List, [], length, slice_get}
use Rattle.std.specs.Option.{unwrap_or}
use Rattle.t1_char.specs.declared.token.CharToken.{CharToken}
use Rattle.t1_char.specs.Charstrings.{code_at, len_iv_in, subr_in, tokens_in}
use Rattle.t1_char.specs.Effects.{is_finishing}
use Rattle.t1_char.specs.Endings.{behind_end}
use Rattle.t1_char.specs.Steps.{StepView, is_last, steps_of}
use Rattle.t1_font.specs.Fonts.{FontValue}
use Rattle.t1_rules.specs.declared.rule.Rule.{Rule}
use Rattle.t1_rules.specs.declared.rule.Rule.TheVariants.{C01, GE02}
use Rattle.t1_reasons.specs.declared.reason.Reason.{Reason}
use Rattle.t1_reasons.specs.declared.reason.Reason.TheVariants.{Behind, Length, Nothing}

-- The charstring in which a step is: that of the innermost Subr, or the glyph's own.
abbrev pub innermost : FontValue → ℕ → Option ℕ → List ℕ
innermost font glyph None = code_at font glyph
innermost font glyph (Some subr) = unwrap_or (subr_in font subr) []

abbrev pub charstring_at : FontValue → ℕ → List ℕ → List ℕ
charstring_at font glyph path = innermost font glyph (slice_get path (length path - 1))

-- What comes behind the end of the glyph in its charstring.
abbrev pub behind_of : Option CharToken → Reason
behind_of None = Nothing
behind_of (Some next) = Behind next

-- What is told of a charstring.
abbrev pub told_of : FontValue → List ℕ → Rule → Reason → Reason
told_of font code C01 reason = Length (length code) (len_iv_in font)
told_of font code GE02 reason = behind_of (slice_get (behind_end (tokens_in font code)) 0)
told_of font code _ reason = reason

-- The same of the charstring in which a step of a glyph is.
abbrev pub told_of_step : FontValue → ℕ → Rule → StepView → Reason → Reason
told_of_step font glyph rule step reason = told_of font (charstring_at font glyph step.path) rule reason

-- What comes behind the step that ends a glyph is what comes behind the first such token of its charstring: by that it is judged whether
-- the step is the last one there.
abbrev pub IsFollowed : FontValue → ℕ → StepView → Type 0
IsFollowed font glyph step =
    is_finishing step.token ≡ true →
    step.last ≡ is_last (length step.path) (behind_end (tokens_in font (charstring_at font glyph step.path)))

abbrev pub EndsAreFollowedAsTold : Type 0
EndsAreFollowedAsTold =
    (font : FontValue) (glyph place : ℕ) (step : StepView) → slice_get (steps_of font glyph) place ≡ Some step → IsFollowed font glyph step

-- What C01 tells is against it: there are fewer bytes than lenIV says.
abbrev pub IsShorter : Reason → Type 0
IsShorter (Length bytes len_iv) = pos bytes <ℤ len_iv
IsShorter _ = ⊥
