-- Charstrings that have a seac among their tokens. Type 1 Font Format 1.1, chapter 6 (seac).
use Rattle.std.specs.Prelude.{ℕ, Bool, true, false, List}
use Rattle.std.specs.List.{list_any}
use Rattle.t1_font.specs.Fonts.{FontValue}
use Rattle.t1_char.specs.declared.command.Command.TheVariants.{Seac}
use Rattle.t1_char.specs.declared.token.CharToken.{CharToken}
use Rattle.t1_char.specs.declared.token.CharToken.TheVariants.{Command}
use Rattle.t1_char.specs.Charstrings.{tokens_in}
use Rattle.t1_char.specs.Steps.{StepView}

abbrev pub is_seac : CharToken → Bool
is_seac (Command Seac) = true
is_seac _ = false

abbrev pub step_is_seac : StepView → Bool
step_is_seac step = is_seac step.token

abbrev pub has_seac : FontValue → List ℕ → Bool
has_seac font code = list_any is_seac (tokens_in font code)

-- One of the Subrs has it.
abbrev pub subr_has_seac : FontValue → ℕ × List ℕ → Bool
subr_has_seac font subr = has_seac font subr.1

abbrev pub subrs_have_seac : FontValue → Bool
subrs_have_seac font = list_any (subr_has_seac font) font.subrs
