-- What is written of things that are handed on, in a form of groups.
use Rattle.std.specs.Prelude.{ℕ, List, [], ◌∷◌, ◌++◌, Bool, Option}
use Rattle.t1_printers.specs.Commands.{command_line_of, refusal_command, unchecked_command}
use Rattle.t1_printers.specs.Grouping.{Grouping}
use Rattle.t1_printers.specs.Held.{HeldLine, held_line, held_text}
use Rattle.t1_printers.specs.Terminals.{terminal_lines_of, terminal_refusal}
use Rattle.t1_font.specs.declared.unread.RefusalCode.{RefusalCode}
use Rattle.t1_many.specs.Handing.{Handed, done, failure, line}
use Rattle.t1_many.specs.Plain.{ArePrinted, tellings}
use Rattle.t1_many.specs.declared.policy.Lost.{Lost}
use Rattle.t1_rules.specs.declared.rule.Rule.{Rule}
use Rattle.t1_many.specs.FontErrors.{reason_of}
use Rattle.t1_many.specs.declared.font_error.FontError.{FontError}
use Rattle.t1_many.specs.declared.font_error.FontError.TheVariants.{Refused, Unchecked}

-- Whether reasons are written; the line of a font's name and a rule, of how many lines there are, the names of their units, and the reason
-- of the first; a refusal; and what is written of a font that wasn't checked for a reason.
pub record Wording : Type 0 where
  pub reasons : Bool
  pub line : List ℕ → Rule → ℕ → List (List ℕ) → Option (List ℕ) → List ℕ
  pub refusal : List ℕ → RefusalCode → List ℕ
  pub unchecked : List ℕ → List ℕ → List ℕ

-- On a terminal of a width, and as commands of a workflow of GitHub.
abbrev pub terminal_wording : ℕ → Bool → Bool → Wording
terminal_wording width has_colours reasons = record {
  reasons = reasons;
  line = terminal_lines_of width has_colours;
  refusal = terminal_refusal has_colours;
  unchecked = λ name reason. [];
}

abbrev pub command_wording : Bool → Wording
command_wording reasons = record {
  reasons = reasons;
  line = command_line_of;
  refusal = refusal_command;
  unchecked = unchecked_command;
}

-- Why there is no report of a font.
abbrev pub failure_words : Wording → List ℕ → FontError → List ℕ
failure_words wording name (Refused code) = wording.refusal name code
failure_words wording name (Unchecked why) = wording.unchecked name (reason_of why)

-- What is written of a thing that is handed on after lines of a font that isn't done; and the lines that are held then.
abbrev pub text_of_one : Wording → List HeldLine → Handed → List ℕ
text_of_one wording held (line name font waivers fault) = []
text_of_one wording held (failure name reason) = failure_words wording name reason
text_of_one wording held (done name found) = held_text (wording.line name) held

abbrev pub held_after : Bool → List HeldLine → Handed → List HeldLine
held_after reasons held (line name font waivers fault) = held ++ held_line reasons font waivers fault ∷ []
held_after reasons held (failure name reason) = held
held_after reasons held (done name found) = []

-- What is written of things that are handed on one after another.
abbrev pub text_after : Wording → List HeldLine → List Handed → List ℕ
text_after wording held [] = []
text_after wording held (handed ∷ more) = text_of_one wording held handed ++ text_after wording (held_after wording.reasons held handed) more

-- All of these was written, and reported as in the plain form.
abbrev pub AreWritten : Wording → Grouping → Grouping → List Handed → Option Lost → Type 0
AreWritten wording old new handed lost = ArePrinted old.sinks new.sinks (text_after wording [] handed) (tellings handed) lost
