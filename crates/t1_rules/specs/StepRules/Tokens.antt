-- The kinds of tokens that charstring rules speak of. Type 1 Font Format 1.1, chapter 6.
use Rattle.std.specs.Prelude.{◌≡◌, ◌||◌, Bool, true, false}
use Rattle.t1_char.specs.declared.command.Command.{Command as Commands}
use Rattle.t1_char.specs.declared.command.Command.TheVariants.{Vmoveto, Rlineto, Hlineto, Vlineto, Rrcurveto, Closepath, Hsbw, Rmoveto, Hmoveto, Vhcurveto, Hvcurveto, Sbw, Div, Pop, Setcurrentpoint}
use Rattle.t1_char.specs.declared.token.CharToken.{CharToken}
use Rattle.t1_char.specs.declared.token.CharToken.TheVariants.{Command, Unknown, Unknown12, Cut, Short}
use Rattle.t1_char.specs.Steps.{StepView}
use Rattle.t1_char.specs.Commands.{is_clearing}

-- A byte, or 12 and a byte, that is no command.
abbrev pub is_unknown : CharToken → Bool
is_unknown (Unknown _) = true
is_unknown (Unknown12 _) = true
is_unknown _ = false

-- The bytes break off inside a number or after 12.
abbrev pub is_cut : CharToken → Bool
is_cut Cut = true
is_cut _ = false

-- The charstring has fewer bytes than lenIV says.
abbrev pub is_short : CharToken → Bool
is_short Short = true
is_short _ = false

-- A command of a kind.
abbrev pub is_command : (Commands → Bool) → CharToken → Bool
is_command kind (Command command) = kind command
is_command kind _ = false

-- A step's token is this command.
abbrev pub IsCommand : StepView → Commands → Type 0
IsCommand step command = step.token ≡ Command command

abbrev pub is_div : CharToken → Bool
is_div (Command Div) = true
is_div _ = false

abbrev pub is_pop : CharToken → Bool
is_pop (Command Pop) = true
is_pop _ = false

-- A command that takes its arguments from the bottom of the stack, which it then empties.
abbrev pub clears : CharToken → Bool
clears token = is_command is_clearing token

-- Sidebearing and width.
abbrev pub sets_width : CharToken → Bool
sets_width (Command Hsbw) = true
sets_width (Command Sbw) = true
sets_width _ = false

abbrev pub is_move : CharToken → Bool
is_move (Command Rmoveto) = true
is_move (Command Hmoveto) = true
is_move (Command Vmoveto) = true
is_move _ = false

-- A line or a curve.
abbrev pub is_line : CharToken → Bool
is_line (Command Rlineto) = true
is_line (Command Hlineto) = true
is_line (Command Vlineto) = true
is_line (Command Rrcurveto) = true
is_line (Command Vhcurveto) = true
is_line (Command Hvcurveto) = true
is_line _ = false

abbrev pub closes : CharToken → Bool
closes (Command Closepath) = true
closes _ = false

abbrev pub is_hsbw : CharToken → Bool
is_hsbw (Command Hsbw) = true
is_hsbw _ = false

abbrev pub is_setcurrentpoint : CharToken → Bool
is_setcurrentpoint (Command Setcurrentpoint) = true
is_setcurrentpoint _ = false

-- A command that says where the current point is.
abbrev pub sets_point : CharToken → Bool
sets_point token = sets_width token || is_setcurrentpoint token
