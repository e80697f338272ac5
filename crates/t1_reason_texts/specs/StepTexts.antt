-- What the texts of reasons that steps have are made of.
use Rattle.std.specs.Prelude.{ℕ, ℤ, pos, ◌-ℤ◌, ◌+ℤ◌, ◌*ℤ◌, ◌&&◌, ◌||◌, Bool, true, false, Option, Some, None, List, [], ◌++◌, codes, if◌then◌else◌}
use Rattle.std.specs.Int.{int_max, int_min, is_negative}
use Rattle.std.specs.Ordering.{int_eq}
use Rattle.std.specs.Fmt.{decimal, signed_decimal}
use Rattle.t1_char.specs.declared.command.Command.{Command as Commands}
use Rattle.t1_char.specs.declared.command.Command.TheVariants.{Callothersubr}
use Rattle.t1_char.specs.declared.token.CharToken.{CharToken}
use Rattle.t1_char.specs.declared.token.CharToken.TheVariants.{Number, Command, Unknown, Unknown12, Cut, Short, End}
use Rattle.t1_char.specs.Commands.{name_of}
use Rattle.t1_reasons.specs.declared.reason.SetStem.{SetStem}
use Rattle.t1_reason_texts.specs.declared.decimals.Exact.{Exact}
use Rattle.t1_reason_texts.specs.declared.decimals.Unit.TheVariants.{Coordinate, Mean, Middle}
use Rattle.t1_reason_texts.specs.Decimals.{coordinate_text, in_unit, text_in}
use Rattle.t1_rules.specs.declared.rule.Rule.{Rule}
use Rattle.t1_rules.specs.declared.rule.Rule.TheVariants.{C03, W02, P01, P03, H01, X01, X02, X03, O03, K06, P11, H05, H06, H07, H09, H10, O05, O06, O08, W03}
use Rattle.t1_rules.specs.declared.step_rules.flex.Point.{Point}
use Rattle.t1_rules.specs.declared.step_rules.stems.Stem.{Stem}
use Rattle.t1_rules.specs.StepRules.Stems.{lower, twice_middle, upper}

-- ---- the stack

-- ` or more` of a command that takes as many numbers as it is told.
abbrev pub or_more : Commands → List ℕ
or_more Callothersubr = codes " or more"
or_more _ = []

abbrev pub bound_words : ℤ → List ℕ
bound_words number = if is_negative number then codes "-32000 at least" else codes "32000 at most"

abbrev pub quotient_text : ℤ → ℤ → List ℕ
quotient_text dividend divisor = coordinate_text dividend ++ (codes " divided by " ++ coordinate_text divisor)

-- ---- tokens

abbrev pub token_text : CharToken → List ℕ
token_text (Number number) = codes "the number " ++ signed_decimal number
token_text (Command command) = name_of command
token_text (Unknown byte) = codes "byte " ++ decimal byte
token_text (Unknown12 byte) = codes "bytes 12 " ++ decimal byte
token_text Cut = codes "a token that breaks off"
token_text Short = codes "a charstring shorter than lenIV"
token_text End = codes "the end of the charstring"

-- Behind a token that is there in place of another. C03 speaks of the token alone.
abbrev pub is_there : Rule → CharToken → List ℕ
is_there C03 token = []
is_there _ (Unknown12 byte) = codes " are there"
is_there _ token = codes " is there"

-- A token that comes behind the end of the glyph.
abbrev pub comes_next : CharToken → List ℕ
comes_next (Unknown12 byte) = codes " come next"
comes_next _ = codes " comes next"

-- ---- steps before

-- What is said before and after the number of a step.
abbrev pub since_before : Rule → List ℕ
since_before W02 = codes "step "
since_before P01 = codes "no move since step "
since_before P03 = codes "nothing is drawn since step "
since_before H01 = codes "drawn at step "
since_before P11 = codes "moved at step "
since_before X01 = codes "the flex began at step "
since_before X03 = codes "the flex began at step "
since_before K06 = codes "an outline or a stem at step "
since_before O05 = codes "step "
since_before O06 = codes "step "
since_before O08 = codes "OtherSubr 12 at step "
since_before W03 = codes "step "
since_before _ = codes "since step "

abbrev pub since_after : Rule → List ℕ
since_after W02 = codes " set the width"
since_after O05 = codes " comes before it"
since_after O06 = codes " ended counter control"
since_after O08 = codes ", not ended by a 13"
since_after W03 = codes " calls an OtherSubr too"
since_after P11 = codes " too, and nothing is drawn since"
since_after _ = []

-- What is said where there was no such step.
abbrev pub since_none : Rule → List ℕ
since_none W02 = codes "another command came first"
since_none P01 = codes "no move so far"
since_none P03 = codes "nothing is drawn so far"
since_none O05 = codes "no hsbw or sbw so far"
since_none W03 = codes "no hsbw or sbw so far"
since_none _ = codes "no step did so"

-- ---- paths and flex

abbrev pub are_same_points : Point → Point → Bool
are_same_points one other = int_eq one.x other.x && int_eq one.y other.y

-- The moves and the points of a flex. Where a point comes too late, moves before it have none.
abbrev pub needed_pairs : Bool → Bool → List ℕ
needed_pairs true late = codes "; 7 of each are needed"
needed_pairs false true = codes " before this point; each move needs a point of its own"
needed_pairs false false = codes " before this point; it needs a move of its own"

-- ---- stems

-- The edges of a stem.
abbrev pub span_text : Stem → List ℕ
span_text stem = coordinate_text (lower stem) ++ (codes " to " ++ coordinate_text (upper stem))

abbrev pub are_same_stems : Stem → Stem → Bool
are_same_stems one other = int_eq (lower one) (lower other) && int_eq (upper one) (upper other)

-- How much two stems share.
abbrev pub share : Stem → Stem → ℤ
share one other = int_min (upper one) (upper other) -ℤ int_max (lower one) (lower other)

-- H06, H07 and H09 speak of stems that need not overlap: H06 of stems of two commands, H07 of two stems that one of three has in turn, H09 of
-- stems that share an edge.
abbrev pub says_overlap : Rule → Bool
says_overlap H06 = false
says_overlap H07 = false
says_overlap H09 = false
says_overlap _ = true

abbrev pub against_words : Rule → List ℕ
against_words H07 = codes " in place of "
against_words H09 = codes " and "
against_words _ = codes " beside "

abbrev pub after_words : Rule → List ℕ
after_words H09 = codes ", share an edge"
after_words _ = []

abbrev pub overlap_text : Stem → SetStem → List ℕ
overlap_text own other =
    if are_same_stems own other.stem then span_text own ++ (codes ", the same stem is set at step " ++ decimal other.step)
    else span_text own
    ++ (codes " and " ++ (span_text other.stem ++ (codes ", set at step " ++ (decimal other.step ++ (codes ", share " ++ text_in Coordinate (share own other.stem))))))

unfoldable pub stems_text : Rule → Stem → SetStem → List ℕ
stems_text rule own other =
    if says_overlap rule then overlap_text own other
    else span_text own ++ (against_words rule ++ (span_text other.stem ++ (codes ", set at step " ++ (decimal other.step ++ after_words rule))))

-- H05 speaks of a stem's width, H10 of how it is written, H03 of a stem that has none.
abbrev pub says_width : Rule → Bool
says_width H05 = true
says_width _ = false

abbrev pub says_writing : Rule → Bool
says_writing H10 = true
says_writing _ = false

unfoldable pub writing_text : Stem → List ℕ
writing_text stem =
    coordinate_text stem.position
    ++ (codes " " ++ (coordinate_text stem.width ++ (codes " says the same as " ++ (coordinate_text (lower stem)
    ++ (codes " " ++ text_in Coordinate (upper stem -ℤ lower stem))))))

-- How far the second middle is from half-way between the others, in units of 1/262144.
abbrev pub off_middle : Stem → Stem → Stem → ℤ
off_middle one two three = (pos 2 *ℤ twice_middle two) -ℤ (twice_middle one +ℤ twice_middle three)

abbrev pub is_half_off : ℤ → Bool
is_half_off off = int_eq off (pos 131072) || int_eq off (pos 0 -ℤ pos 131072)

abbrev pub off_words : Stem → Stem → Stem → List ℕ
off_words one two three = if is_half_off (off_middle one two three) then codes ", half a unit off" else []

-- The middle that would do between two stems, where they are equally wide.
abbrev pub middle_that_does : Stem → Stem → Option Exact
middle_that_does one three = if int_eq one.width three.width then Some (in_unit Mean (twice_middle one +ℤ twice_middle three)) else None

unfoldable pub middles_text : Stem → Stem → Stem → List ℕ
middles_text one two three =
    text_in Middle (twice_middle one) ++ (codes " " ++ (text_in Middle (twice_middle two) ++ (codes " " ++ text_in Middle (twice_middle three))))

unfoldable pub widths_text : Stem → Stem → Stem → List ℕ
widths_text one two three = coordinate_text one.width ++ (codes " " ++ (coordinate_text two.width ++ (codes " " ++ coordinate_text three.width)))

-- ---- OtherSubrs

-- How many arguments an OtherSubr takes: 0, the end of a flex, three, 1 and 2 none, 3, the hint replacement, one.
abbrev pub takes_words : ℤ → List ℕ
takes_words number =
    if int_eq number (pos 0) then codes "; it takes 3"
    else (if int_eq number (pos 196608) then codes "; it takes 1" else codes "; it takes none")

-- Which call of a flex comes outside one: its end, or a point.
abbrev pub part_words : ℤ → List ℕ
part_words number = if int_eq number (pos 0) then codes ", the end of a flex" else codes ", a point of a flex"

-- What is said after a call.
abbrev pub call_words : Rule → ℤ → List ℕ
call_words O03 number = takes_words number
call_words X02 number = part_words number
call_words _ number = []
