-- No text has a byte below 32 or a colon.
use Rattle.std.proofs.Common.{◌≡◌, ℕ, ◌-◌, ◌==◌, ℤ, Bool, true, false, Option, Some, None, List, [], ◌∷◌, inl, inr, refl, ◌∙◌}
use Rattle.std.proofs.lemmas.Bool.{cases_Bool}
use Rattle.std.specs.List.{list_all}
use Rattle.t1_char.specs.declared.command.Command.{Command as Commands}
use Rattle.t1_char.specs.declared.command.Command.TheVariants.{Callothersubr}
use Rattle.t1_char.specs.declared.token.CharToken.{CharToken}
use Rattle.t1_char.specs.declared.token.CharToken.TheVariants.{Number, Command, Unknown, Unknown12, Cut, Short}
use Rattle.t1_font.specs.declared.encoding.Encoding.{Encoding}
use Rattle.t1_font.specs.declared.encoding.Encoding.TheVariants.{Absent as NoEncoding}
use Rattle.t1_rules.specs.declared.font_rules.zones.Edges.{Edges}
use Rattle.t1_reasons.specs.declared.reason.EntryKind.TheVariants.{Number as OneNumber}
use Rattle.t1_reasons.specs.declared.reason.FontText.{FontText}
use Rattle.t1_reasons.specs.declared.reason.FontText.TheVariants.{Clear}
use Rattle.t1_reasons.specs.declared.reason.Found.{Found}
use Rattle.t1_reasons.specs.declared.reason.Found.TheVariants.{Absent, One, Other, Several}
use Rattle.t1_reasons.specs.declared.reason.Reason.TheVariants.{Kind, LastToken, Nothing, Since, Waiver}
use Rattle.t1_reasons.specs.declared.waivers.Unused.TheVariants.{NoGlyph}
use Rattle.t1_reasons.specs.declared.reason.SetStem.{SetStem}
use Rattle.t1_rules.specs.declared.rule.Rule.{Rule}
use Rattle.t1_rules.specs.declared.rule.Rule.TheVariants.{C03, F03, F15, F19, H07, H09, K01, K03, O03, P06, P07, P08, W02, X02, Z12, Z13, Z14, Z16}
use Rattle.t1_rules.specs.declared.step_rules.stems.Stem.{Stem as OneStem}
use Rattle.t1_reason_texts.specs.declared.decimals.Exact.{Exact}
use Rattle.t1_drawing.specs.declared.direction.Direction.{Direction}
use Rattle.t1_drawing.specs.declared.direction.Direction.TheVariants.{Across, Upright}
use Rattle.t1_rules.specs.declared.step_rules.flex.Point.{Point}
use Rattle.t1_reason_texts.specs.declared.drawing_texts.Side.{Side}
use Rattle.t1_reason_texts.specs.declared.drawing_texts.Side.TheVariants.{Above, Below, Left, Right}
use Rattle.t1_reason_texts.specs.DrawingTexts.{axis_word, drawn_text, nearest_text, place_text, side_axis, side_words, stroke_text}
use Rattle.t1_reason_texts.specs.FontTexts.{absent_needed, count_needed, entry_name, entry_needed, entry_text, form_words, found_text, subr_entry_text}
use Rattle.t1_reason_texts.specs.Laws.{AreOneLine, is_plain}
use Rattle.t1_reason_texts.specs.SeacTexts.{code_text, name_words}
use Rattle.t1_reason_texts.specs.StepTexts.{after_words, against_words, call_words, comes_next, is_there, middles_text, needed_pairs, or_more, since_after, since_before, since_none, stems_text, token_text, widths_text, writing_text}
use Rattle.t1_reason_texts.specs.Texts.{drawing_reason_text, font_reason_text, numbers_reason_text, outline_reason_text, reason_text}
use Rattle.t1_reason_texts.specs.Names.{shown_byte}
use Rattle.t1_reason_texts.specs.WordTexts.{shown_bytes, shown_letter, text_words, word_reason_text}
use Rattle.t1_reason_texts.specs.ZoneTexts.{below_one, height_text, number_text, would_do, zones_text}
use Rattle.t1_reason_texts.proofs.PlainParts.{append, either_same, plain, plain_by, plain_byte, plain_command, plain_decimal, plain_either, plain_name, plain_signed}

-- ---- words

plain_more : (command : Commands) → list_all is_plain (or_more command) ≡ true
plain_more Callothersubr = refl
plain_more _ = refl

plain_token : (token : CharToken) → list_all is_plain (token_text token) ≡ true
plain_token (Number number) = plain_signed number
plain_token (Command command) = plain_command command
plain_token (Unknown byte) = plain_decimal byte
plain_token (Unknown12 byte) = plain_decimal byte
plain_token Cut = refl
plain_token _ = refl

plain_is_there : (rule : Rule) (token : CharToken) → list_all is_plain (is_there rule token) ≡ true
plain_is_there C03 token = refl
plain_is_there _ (Unknown12 byte) = refl
plain_is_there _ _ = refl

plain_comes : (token : CharToken) → list_all is_plain (comes_next token) ≡ true
plain_comes (Unknown12 byte) = refl
plain_comes _ = refl

plain_needed_pairs : (ends late : Bool) → list_all is_plain (needed_pairs ends late) ≡ true
plain_needed_pairs true late = refl
plain_needed_pairs false true = refl
plain_needed_pairs false false = refl

plain_before : (rule : Rule) → list_all is_plain (since_before rule) ≡ true
plain_before W02 = refl
plain_before _ = refl

plain_after : (rule : Rule) → list_all is_plain (since_after rule) ≡ true
plain_after W02 = refl
plain_after _ = refl

plain_none : (rule : Rule) → list_all is_plain (since_none rule) ≡ true
plain_none W02 = refl
plain_none _ = refl

plain_against : (rule : Rule) → list_all is_plain (against_words rule) ≡ true
plain_against H07 = refl
plain_against _ = refl

plain_behind : (rule : Rule) → list_all is_plain (after_words rule) ≡ true
plain_behind H09 = refl
plain_behind _ = refl

plain_stems : (rule : Rule) (own : OneStem) (other : SetStem) → list_all is_plain (stems_text rule own other) ≡ true
unfolding stems_text
plain_stems rule own other = simp (plain, plain_against, plain_behind)

plain_writing : (stem : OneStem) → list_all is_plain (writing_text stem) ≡ true
unfolding writing_text
plain_writing stem = simp plain

plain_widths : (one two three : OneStem) → list_all is_plain (widths_text one two three) ≡ true
unfolding widths_text
plain_widths one two three = simp plain

plain_middles : (one two three : OneStem) → list_all is_plain (middles_text one two three) ≡ true
unfolding middles_text
plain_middles one two three = simp plain

plain_call_words : (rule : Rule) (number : ℤ) → list_all is_plain (call_words rule number) ≡ true
plain_call_words O03 number = simp plain
plain_call_words X02 number = simp plain
plain_call_words _ number = refl

plain_does : (entry : List ℕ) (number : Option Exact) → list_all is_plain entry ≡ true → list_all is_plain (would_do entry number) ≡ true
plain_does entry None is = refl
plain_does entry (Some number) is = simp (plain, is)

-- ---- seac

plain_name_words : (name : List ℕ) → list_all is_plain (name_words name) ≡ true
plain_name_words [] = refl
plain_name_words (letter ∷ letters) = plain_name (letter ∷ letters)

plain_code : (rule : Rule) (code : ℤ) → list_all is_plain (code_text rule code) ≡ true
unfolding code_text
plain_code K01 code = plain_by 65536 code
plain_code K03 code = simp (plain, plain_name_words)
plain_code _ code = simp (plain, plain_name_words)

-- ---- entries

plain_entry_name : (rule : Rule) → list_all is_plain (entry_name rule) ≡ true
plain_entry_name F03 = refl
plain_entry_name _ = refl

plain_entry_needed : (rule : Rule) → list_all is_plain (entry_needed rule) ≡ true
plain_entry_needed F03 = refl
plain_entry_needed _ = refl

plain_absent : (rule : Rule) → list_all is_plain (absent_needed rule) ≡ true
plain_absent Z12 = refl
plain_absent _ = refl

plain_count_needed : (rule : Rule) → list_all is_plain (count_needed rule) ≡ true
plain_count_needed F15 = refl
plain_count_needed _ = refl

plain_entry : (rule : Rule) (found : Found) → list_all is_plain (entry_text rule found) ≡ true
plain_entry rule Absent = simp (plain, plain_entry_name, plain_absent)
plain_entry rule (One number) = simp (plain, plain_entry_name, plain_entry_needed)
plain_entry rule (Several count) = simp (plain, plain_entry_name, plain_entry_needed, plain_count_needed)
plain_entry rule Other = simp (plain, plain_entry_name)

plain_found : (found : Found) → list_all is_plain (found_text found) ≡ true
plain_found Absent = refl
plain_found (One number) = plain_by 1000000000 number
plain_found (Several count) = simp plain
plain_found Other = refl

plain_subr_entry : (number : ℕ) (twice is_past : Bool) (size : ℕ) → list_all is_plain (subr_entry_text number twice is_past size) ≡ true
unfolding subr_entry_text
plain_subr_entry number twice is_past size = simp plain

-- ---- zones

plain_zones : (own other : Edges) → list_all is_plain (zones_text own other) ≡ true
unfolding zones_text
plain_zones own other = simp plain

plain_height : (bottom top scale : ℤ) → list_all is_plain (height_text bottom top scale) ≡ true
unfolding height_text
plain_height bottom top scale = simp plain

plain_below_one : list_all is_plain below_one ≡ true
unfolding below_one
plain_below_one = refl

plain_number : (rule : Rule) (number : ℤ) → list_all is_plain (number_text rule number) ≡ true
unfolding number_text
plain_number F19 number = simp plain
plain_number Z13 number = simp plain
plain_number Z14 number = simp plain
plain_number Z16 number = simp plain
plain_number _ number = plain_by 1000000000 number

-- ---- the drawing

plain_side_axis : (side : Side) → list_all is_plain (side_axis side) ≡ true
plain_side_axis Left = refl
plain_side_axis Right = refl
plain_side_axis Below = refl
plain_side_axis Above = refl

plain_side_words : (side : Side) → list_all is_plain (side_words side) ≡ true
plain_side_words Left = refl
plain_side_words Right = refl
plain_side_words Below = refl
plain_side_words Above = refl

plain_drawn : (rule : Rule) (line_start : Option Point) (start end : Point) → list_all is_plain (drawn_text rule line_start start end) ≡ true
plain_drawn P06 line_start start end = simp plain
plain_drawn P07 None start end = simp plain
plain_drawn P07 (Some first) start end = simp plain
plain_drawn P08 None start end = simp plain
plain_drawn P08 (Some first) start end = simp plain
plain_drawn _ line_start start end = simp plain

plain_stroke : (rule : Rule) (line_start start end : Option Point) → list_all is_plain (stroke_text rule line_start start end) ≡ true
plain_stroke rule line_start (Some start) (Some end) = plain_drawn rule line_start start end
plain_stroke rule line_start (Some start) None = refl
plain_stroke rule line_start None end = refl

plain_axis : (direction : Direction) → list_all is_plain (axis_word direction) ≡ true
plain_axis Across = refl
plain_axis Upright = refl

plain_place : (direction : Direction) (quarters : ℕ) (place : ℤ) → list_all is_plain (place_text direction quarters place) ≡ true
unfolding place_text
plain_place direction quarters place = simp (plain, plain_axis)

-- ---- words

plain_letter : (byte : ℕ) → list_all is_plain (shown_letter byte) ≡ true
plain_letter byte = plain_either (byte == 32) (32 ∷ []) (shown_byte byte) ∙ rw (plain_byte byte) (either_same (byte == 32))

plain_bytes : (left : ℕ) (word : List ℕ) → list_all is_plain (shown_bytes left word) ≡ true
unfolding shown_bytes
plain_bytes left [] = refl
plain_bytes left (byte ∷ bytes) =
    elim (cases_Bool (left == 0)) [
      | inl e ↦ rw e refl
      | inr e ↦ rw e (append (shown_letter byte) (shown_bytes (left - 1) bytes) (plain_letter byte) (plain_bytes (left - 1) bytes))
    ]

plain_form : (encoding : Encoding) → list_all is_plain (form_words encoding) ≡ true
plain_form NoEncoding = refl
plain_form _ = refl

plain_text_words : (text : FontText) → list_all is_plain (text_words text) ≡ true
plain_text_words Clear = refl
plain_text_words _ = refl

plain_nearest : (direction : Direction) (nearest : Option ℤ) → list_all is_plain (nearest_text direction nearest) ≡ true
plain_nearest direction None = refl
plain_nearest direction (Some place) = simp (plain, plain_axis)

-- ---- all

ruleset worded = (plain, plain_bytes, plain_form, plain_text_words, plain_more, plain_token, plain_is_there, plain_comes, plain_needed_pairs, plain_before, plain_after, plain_none, plain_stems, plain_widths, plain_middles, plain_call_words, plain_does, plain_code, plain_entry, plain_found, plain_subr_entry, plain_number, plain_zones, plain_height, plain_below_one, plain_side_axis, plain_side_words, plain_axis, plain_place, plain_writing, plain_stroke, plain_nearest)

pub are_one_line : AreOneLine
unfolding reason_text outline_reason_text drawing_reason_text font_reason_text numbers_reason_text word_reason_text
are_one_line font rule Nothing = refl
are_one_line font rule (Since None) = simp worded
are_one_line font rule (Kind found OneNumber) = simp worded
are_one_line font rule (LastToken None) = refl
are_one_line font rule (LastToken (Some Short)) = refl
are_one_line font rule (Waiver NoGlyph) = refl
are_one_line font rule (Waiver _) = refl
are_one_line font rule _ = simp worded
