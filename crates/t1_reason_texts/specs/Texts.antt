-- The text of a reason: a function of the font, the rule and the reason. A reason that adds nothing has the empty text.
use Rattle.std.specs.Prelude.{◌-ℤ◌, ◌==◌, ◌&&◌, ℕ, not, nat_lt, if◌then◌else◌, Bool, true, false, List, [], ◌∷◌, ◌++◌, codes, Option, Some, None}
use Rattle.std.specs.List.{concat}
use Rattle.std.specs.Fmt.{decimal, signed_decimal}
use Rattle.t1_char.specs.Commands.{name_of}
use Rattle.t1_char.specs.declared.token.CharToken.TheVariants.{Short}
use Rattle.t1_font.specs.Fonts.{FontValue, glyph_name}
use Rattle.t1_outline.specs.Laws.Points.{end_of}
use Rattle.t1_reasons.specs.declared.reason.EntryKind.TheVariants.{Number as OneNumber, Numbers as ManyNumbers}
use Rattle.t1_reasons.specs.declared.reason.Reason.{Reason}
use Rattle.t1_reasons.specs.declared.reason.Reason.TheVariants.{Area, Argument, Arguments, Behind, Beyond, Code, Codes, Corners, Count, Depth, Ending, Entry, Following, Features, Form, Full, Gap, Glyph, Glyphs, Ids, Kind, LastToken, Length, Limit, Miss, Nothing, Number, Numbers, Open, Othersubr, Outside, Pairs, Quotient, Sidebearings, Since, Stem, Stems, Stroke, Subr, SubrEntry, Token, TooMany, Triple, Untouched, Waiver, Width, Zone, Zones}
use Rattle.t1_reasons.specs.declared.waivers.Unused.TheVariants.{NoGlyph, Unbroken}
use Rattle.t1_reasons.specs.Remedies.{fuzz_for_all, fuzz_for_both, scale_for_all}
use Rattle.t1_reason_texts.specs.declared.decimals.Unit.TheVariants.{Coordinate}
use Rattle.t1_reason_texts.specs.Decimals.{coordinate_text, point_text, text_in}
use Rattle.t1_reason_texts.specs.DrawingTexts.{area_text, beyond_text, outside_text, stroke_text, untouched_text}
use Rattle.t1_reason_texts.specs.FontTexts.{encoded_name, entry_text, form_words, found_text, has_two, says_last, subr_entry_text, value_text}
use Rattle.t1_reason_texts.specs.Names.{shown_name}
use Rattle.t1_reason_texts.specs.SeacTexts.{code_text, is_meant, sidebearings_text}
use Rattle.t1_reason_texts.specs.StepTexts.{are_same_points, bound_words, call_words, comes_next, is_there, middle_that_does, middles_text, needed_pairs, off_words, or_more, quotient_text, says_width, says_writing, since_after, since_before, since_none, span_text, stems_text, token_text, widths_text, writing_text}
use Rattle.t1_reason_texts.specs.WordTexts.{word_reason_text}
use Rattle.t1_reason_texts.specs.Words.{are_text, arguments_text, counted_text, numbers_text}
use Rattle.t1_reason_texts.specs.ZoneTexts.{from_zero, gap_text, needed_text, number_text, says_twice, width_text, would_do, zone_text, zones_text}
use Rattle.t1_rules.specs.declared.rule.Rule.{Rule}
use Rattle.t1_rules.specs.StepRules.Stems.{lower, upper}

-- Of a reason that speaks of the numbers of an entry, or of a later one.
unfoldable pub numbers_reason_text : FontValue → Rule → Reason → List ℕ
numbers_reason_text font rule (TooMany count most) = numbers_text count ++ (codes ", " ++ (decimal most ++ codes " at most"))
numbers_reason_text font rule (Numbers count) = numbers_text count
numbers_reason_text font rule (Corners first last) = value_text first ++ (codes " is above " ++ value_text last)
numbers_reason_text font rule (Number number) = number_text rule number
numbers_reason_text font rule (Following before number) =
    if says_twice rule then value_text number ++ codes " comes twice" else value_text number ++ (codes " comes after " ++ value_text before)
numbers_reason_text font rule (Gap upper lower distance) = gap_text upper lower distance ++ would_do (codes "BlueFuzz") (from_zero (fuzz_for_all font))
numbers_reason_text font rule (Zones own other distance) =
    zones_text own other ++ (needed_text distance ++ would_do (codes "BlueFuzz") (from_zero (fuzz_for_both font)))
numbers_reason_text font rule (Zone lower upper scale) = zone_text lower upper scale ++ would_do (codes "BlueScale") (from_zero (scale_for_all font))
numbers_reason_text font rule (Width width nearest) = width_text width nearest
numbers_reason_text font rule reason = word_reason_text font reason

-- Of a reason that speaks of the font and its entries, of a charstring as a whole, or of a waiver.
unfoldable pub font_reason_text : FontValue → Rule → Reason → List ℕ
font_reason_text font rule (Limit steps) = codes "more than " ++ (decimal steps ++ codes " steps")
-- What an entry is, and what it should be; of MinFeature its numbers where there are two.
font_reason_text font rule (Entry found) = if says_last rule then codes "the last one is taken; " ++ found_text found else entry_text rule found
font_reason_text font rule (Ids clear private) = value_text clear ++ (codes " in the clear text, " ++ (value_text private ++ codes " in Private"))
font_reason_text font rule (Features found one two) =
    if has_two found then codes "it is {" ++ (value_text one ++ (codes " " ++ (value_text two ++ codes "}"))) else found_text found
font_reason_text font rule (Glyphs count) =
    if count == 0 then codes "there is no glyph"
    else (if count == 1 then codes "the only glyph has another name" else codes "none of " ++ (decimal count ++ codes " glyphs"))
font_reason_text font rule (Form encoding) = if says_last rule then codes "the last one is taken; " ++ form_words encoding else form_words encoding
font_reason_text font rule (SubrEntry number twice size) = subr_entry_text number twice (not (nat_lt number size)) size
font_reason_text font rule (Kind found OneNumber) = found_text found ++ codes "; a number is needed"
font_reason_text font rule (Kind found ManyNumbers) = found_text found ++ codes "; a list of numbers is needed"
font_reason_text font rule (Glyph glyph) = codes "the glyph is " ++ shown_name (glyph_name font glyph)
font_reason_text font rule (Code code) = codes "code " ++ (decimal code ++ (codes " names " ++ shown_name (encoded_name font code)))
font_reason_text font rule (LastToken None) = codes "it is empty"
font_reason_text font rule (LastToken (Some Short)) = codes "it is shorter than lenIV"
font_reason_text font rule (LastToken (Some token)) = codes "it ends with " ++ token_text token
font_reason_text font rule (Waiver NoGlyph) = codes "no glyph has this name"
font_reason_text font rule (Waiver (Unbroken glyph)) = codes "no step of the glyph breaks this rule"
font_reason_text font rule reason = numbers_reason_text font rule reason

-- Of one that speaks of the drawing.
unfoldable pub drawing_reason_text : FontValue → Rule → Reason → List ℕ
drawing_reason_text font rule (Outside point font_box) = outside_text point font_box
drawing_reason_text font rule (Area twentyfold turns) = area_text twentyfold turns
drawing_reason_text font rule (Stroke line_start start segment) = stroke_text rule line_start start (end_of segment)
drawing_reason_text font rule (Beyond direction quarters place start end) = beyond_text direction quarters place start end
drawing_reason_text font rule (Untouched stem step nearest) = untouched_text stem step nearest
drawing_reason_text font rule reason = font_reason_text font rule reason

-- Of one that speaks of points, of stems or of an accented character.
unfoldable pub outline_reason_text : FontValue → Rule → Reason → List ℕ
outline_reason_text font rule (Pairs moves points ends) =
    counted_text moves (codes "move") ++ (codes " and " ++ (counted_text points (codes "point") ++ needed_pairs ends (nat_lt points moves)))
outline_reason_text font rule (Open start pen) =
    if are_same_points start pen then codes "ends where it began, without closepath"
    else codes "from " ++ (point_text start ++ (codes " to " ++ point_text pen))
outline_reason_text font rule (Stems own other) = stems_text rule own other
outline_reason_text font rule (Stem stem) =
    if says_width rule then codes "the stem from " ++ (span_text stem ++ (codes " is " ++ (text_in Coordinate (upper stem -ℤ lower stem) ++ codes " wide")))
    else (if says_writing rule then writing_text stem else codes "the stem is at " ++ coordinate_text stem.position)
outline_reason_text font rule (Triple one two three) =
    codes "widths " ++ (widths_text one two three ++ (codes ", middles " ++ (middles_text one two three
    ++ (off_words one two three ++ would_do (codes "middle") (middle_that_does one three)))))
outline_reason_text font rule (Miss named pen) = codes "the pen is at " ++ (point_text pen ++ (codes ", the end names " ++ point_text named))
-- Of the code that the rule means, as far as the font tells it, or of both.
outline_reason_text font rule (Codes base accent) =
    if is_meant font rule base && not (is_meant font rule accent) then codes "the base's " ++ code_text rule base
    else (if is_meant font rule accent && not (is_meant font rule base) then codes "the accent's " ++ code_text rule accent
    else codes "the base's " ++ (code_text rule base ++ (codes " and the accent's " ++ code_text rule accent)))
outline_reason_text font rule (Sidebearings told own) = sidebearings_text told own
outline_reason_text font rule reason = drawing_reason_text font rule reason

unfoldable pub reason_text : FontValue → Rule → Reason → List ℕ
-- How many numbers a command takes, and how many are on the stack; then a token that comes to a full stack.
reason_text font rule (Count command taken there) =
    name_of command ++ (codes " takes " ++ (numbers_text taken ++ (or_more command ++ (codes ", " ++ (are_text there ++ codes " on the stack")))))
reason_text font rule (Full token there) = token_text token ++ (codes " after " ++ (numbers_text there ++ codes ", 24 at most"))
reason_text font rule (Length bytes len_iv) = counted_text bytes (codes "byte") ++ (codes ", lenIV is " ++ signed_decimal len_iv)
reason_text font rule (Ending subr) = codes "Subr " ++ (decimal subr ++ codes " ends")
reason_text font rule (Behind next) = token_text next ++ comes_next next
reason_text font rule (Argument place number) =
    codes "argument " ++ (decimal place ++ (codes " is " ++ (coordinate_text number ++ (codes ", " ++ bound_words number))))
reason_text font rule (Quotient dividend divisor) = quotient_text dividend divisor
reason_text font rule (Depth calls) =
    if calls == 0 then codes "no Subr is being executed"
    else (if calls == 1 then codes "1 Subr is being executed" else decimal calls ++ codes " Subrs are being executed")
reason_text font rule (Subr number found) = if found then codes "Subr " ++ coordinate_text number else codes "there is no Subr " ++ coordinate_text number
reason_text font rule (Token token) = token_text token ++ is_there rule token
reason_text font rule (Since (Some step)) = since_before rule ++ (decimal step ++ since_after rule)
reason_text font rule (Since None) = since_none rule
reason_text font rule (Othersubr number count) =
    codes "OtherSubr " ++ (coordinate_text number ++ (codes " with " ++ (arguments_text count ++ call_words rule number)))
reason_text font rule (Arguments count there) = codes "the count is " ++ (coordinate_text count ++ (codes ", " ++ (are_text there ++ codes " there")))
reason_text font rule reason = outline_reason_text font rule reason

-- Whether a reason has a text.
abbrev pub says_more : Reason → Bool
says_more Nothing = false
says_more _ = true

-- The text that is shown behind a line: none where there is no reason, or where it adds nothing.
abbrev pub shown_text : FontValue → Rule → Option Reason → Option (List ℕ)
shown_text font rule None = None
shown_text font rule (Some reason) = if says_more reason then Some (reason_text font rule reason) else None

-- The line of such a text: three blanks and the text.
abbrev pub line_behind : Option (List ℕ) → List ℕ
line_behind None = []
line_behind (Some text) = concat (codes "   " ∷ text ∷ codes "\n" ∷ [])
