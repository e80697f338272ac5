-- The commands of charstrings. Type 1 Font Format 1.1, chapter 6 (Charstring Command Encoding).
use Rattle.std.specs.Prelude.{ℕ, ◌==◌, if◌then◌else◌, Bool, Option, Some, None, List, [], ◌∷◌, codes, is_some}
use Rattle.t1_char.specs.declared.command.Command.{Command}
use Rattle.t1_char.specs.declared.command.Command.TheVariants.{Hstem, Vstem, Vmoveto, Rlineto, Hlineto, Vlineto, Rrcurveto, Closepath, Callsubr, Return, Hsbw, Endchar, Rmoveto, Hmoveto, Vhcurveto, Hvcurveto, Dotsection, Vstem3, Hstem3, Seac, Sbw, Div, Callothersubr, Pop, Setcurrentpoint}

-- How a command is written, what it is called, and how many arguments it takes from the bottom of the
-- stack, which it then empties; none where it takes what it needs from the top.
pub record Row : Type 0 where
  pub bytes : List ℕ
  pub name : List ℕ
  pub arguments : Option ℕ

abbrev pub row : List ℕ → List ℕ → Option ℕ → Row
row bytes name arguments = record { bytes = bytes; name = name; arguments = arguments }

-- The table of the commands.
abbrev pub row_of : Command → Row
row_of Hstem = row (1 ∷ []) (codes "hstem") (Some 2)
row_of Vstem = row (3 ∷ []) (codes "vstem") (Some 2)
row_of Vmoveto = row (4 ∷ []) (codes "vmoveto") (Some 1)
row_of Rlineto = row (5 ∷ []) (codes "rlineto") (Some 2)
row_of Hlineto = row (6 ∷ []) (codes "hlineto") (Some 1)
row_of Vlineto = row (7 ∷ []) (codes "vlineto") (Some 1)
row_of Rrcurveto = row (8 ∷ []) (codes "rrcurveto") (Some 6)
row_of Closepath = row (9 ∷ []) (codes "closepath") (Some 0)
row_of Callsubr = row (10 ∷ []) (codes "callsubr") None
row_of Return = row (11 ∷ []) (codes "return") None
row_of Hsbw = row (13 ∷ []) (codes "hsbw") (Some 2)
row_of Endchar = row (14 ∷ []) (codes "endchar") (Some 0)
row_of Rmoveto = row (21 ∷ []) (codes "rmoveto") (Some 2)
row_of Hmoveto = row (22 ∷ []) (codes "hmoveto") (Some 1)
row_of Vhcurveto = row (30 ∷ []) (codes "vhcurveto") (Some 4)
row_of Hvcurveto = row (31 ∷ []) (codes "hvcurveto") (Some 4)
row_of Dotsection = row (12 ∷ 0 ∷ []) (codes "dotsection") (Some 0)
row_of Vstem3 = row (12 ∷ 1 ∷ []) (codes "vstem3") (Some 6)
row_of Hstem3 = row (12 ∷ 2 ∷ []) (codes "hstem3") (Some 6)
row_of Seac = row (12 ∷ 6 ∷ []) (codes "seac") (Some 5)
row_of Sbw = row (12 ∷ 7 ∷ []) (codes "sbw") (Some 4)
row_of Div = row (12 ∷ 12 ∷ []) (codes "div") None
row_of Callothersubr = row (12 ∷ 16 ∷ []) (codes "callothersubr") None
row_of Pop = row (12 ∷ 17 ∷ []) (codes "pop") None
row_of Setcurrentpoint = row (12 ∷ 33 ∷ []) (codes "setcurrentpoint") (Some 2)

abbrev pub name_of : Command → List ℕ
name_of command = (row_of command).name

abbrev pub arguments_of : Command → Option ℕ
arguments_of command = (row_of command).arguments

-- A command that takes its arguments from the bottom of the stack empties it.
abbrev pub is_clearing : Command → Bool
is_clearing command = is_some (arguments_of command)

-- The command of a byte below 32 other than 12.
abbrev pub command_of : ℕ → Option Command
command_of v =
    if v == 1 then Some Hstem
    else (if v == 3 then Some Vstem
    else (if v == 4 then Some Vmoveto
    else (if v == 5 then Some Rlineto
    else (if v == 6 then Some Hlineto
    else (if v == 7 then Some Vlineto
    else (if v == 8 then Some Rrcurveto
    else (if v == 9 then Some Closepath
    else (if v == 10 then Some Callsubr
    else (if v == 11 then Some Return
    else (if v == 13 then Some Hsbw
    else (if v == 14 then Some Endchar
    else (if v == 21 then Some Rmoveto
    else (if v == 22 then Some Hmoveto
    else (if v == 30 then Some Vhcurveto
    else (if v == 31 then Some Hvcurveto
    else None)))))))))))))))

-- The command of 12 and this byte.
abbrev pub escaped_of : ℕ → Option Command
escaped_of w =
    if w == 0 then Some Dotsection
    else (if w == 1 then Some Vstem3
    else (if w == 2 then Some Hstem3
    else (if w == 6 then Some Seac
    else (if w == 7 then Some Sbw
    else (if w == 12 then Some Div
    else (if w == 16 then Some Callothersubr
    else (if w == 17 then Some Pop
    else (if w == 33 then Some Setcurrentpoint
    else None))))))))
