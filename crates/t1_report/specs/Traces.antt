-- The line of a step of a glyph.
use Rattle.std.specs.Prelude.{ℕ, List, ◌∷◌, [], ◌++◌, codes}
use Rattle.std.specs.List.{concat}
use Rattle.std.specs.Fmt.{decimal, signed_decimal}
use Rattle.t1_char.specs.declared.token.CharToken.{CharToken}
use Rattle.t1_char.specs.declared.token.CharToken.TheVariants.{Number, Command, Unknown, Unknown12, Cut, Short, End}
use Rattle.t1_char.specs.Commands.{name_of}
use Rattle.t1_char.specs.Steps.{NumberedStep}
use Rattle.t1_report.specs.Lines.{path_text}

-- A token: its number, the command's name, the byte of an unknown command, or what ends a charstring.
abbrev pub token_text : CharToken → List ℕ
token_text (Number number) = signed_decimal number
token_text (Command command) = name_of command
token_text (Unknown byte) = concat (codes "unknown " ∷ decimal byte ∷ [])
token_text (Unknown12 byte) = concat (codes "unknown 12 " ∷ decimal byte ∷ [])
token_text Cut = codes "cut"
token_text Short = codes "short"
token_text End = codes "end"

-- `STEP PATH TOKEN`, ended by byte 10.
abbrev pub step_line : NumberedStep → List ℕ
step_line n =
    concat (decimal n.number ∷ codes " " ∷ [])
    ++ (path_text n.step.path ++ (codes " " ++ (token_text n.step.token ++ codes "\n")))
