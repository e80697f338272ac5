-- The files of a folder: a picture of each glyph that has faults, and an index of all faults.
use Rattle.std.specs.Prelude.{ℕ, ◌+◌, ◌-◌, ◌==◌, ◌||◌, ◌&&◌, nat_lt, nat_le, ◌/◌, ◌%◌, Bool, false, Option, None, Some, List, [], ◌∷◌, ◌++◌, codes, if◌then◌else◌, length, take}
use Rattle.std.specs.Fmt.{decimal}
use Rattle.std.specs.List.{flat_map}
use Rattle.t1_font.specs.Fonts.{FontValue, glyph_name}
use Rattle.t1_forms.specs.Shown.{shown}
use Rattle.t1_forms.specs.Xml.{xml_text}
use Rattle.t1_report.specs.Faults.{FaultValue}
use Rattle.t1_report.specs.Lines.{line_of}
use Rattle.t1_report.specs.Waivers.{Waiver}

-- ---- the names of files

-- A digit of a hexadecimal number, in lower case.
abbrev pub small_digit : ℕ → ℕ
small_digit digit = if nat_lt digit 10 then 48 + digit else 87 + digit

abbrev pub is_between : ℕ → ℕ → ℕ → Bool
is_between low high byte = nat_le low byte && nat_le byte high

-- A small letter or a digit, and a capital.
abbrev pub is_small : ℕ → Bool
is_small byte = is_between 97 122 byte || is_between 48 57 byte

abbrev pub is_capital : ℕ → Bool
is_capital byte = is_between 65 90 byte

-- A small letter or a digit stands for itself, `_a` for a capital, and `=2e` for any other byte: so names that differ are spelled in
-- another way also where capitals don't count, and have no letter that a folder gives a meaning.
abbrev pub spelled_capital : ℕ → List ℕ
spelled_capital byte = 95 ∷ (byte + 32) ∷ []

abbrev pub spelled_by_digits : ℕ → List ℕ
spelled_by_digits byte = 61 ∷ small_digit (byte / 16) ∷ small_digit (byte % 16) ∷ []

abbrev pub spelled_byte : ℕ → List ℕ
spelled_byte byte =
    if is_small byte then (byte ∷ []) else (if is_capital byte then spelled_capital byte else spelled_by_digits byte)

abbrev pub spelled : List ℕ → List ℕ
spelled name = flat_map spelled_byte name

-- The most bytes of a name that are spelled.
abbrev pub most_spelled : ℕ
most_spelled = 60

-- The name of a glyph's picture: of a glyph with a long name by its place in the font.
abbrev pub picture_name : ℕ → List ℕ → List ℕ
picture_name glyph name =
    if nat_le (length name) most_spelled then codes "glyph-" ++ (spelled name ++ codes ".svg")
    else codes "place-" ++ (decimal glyph ++ codes ".svg")

abbrev pub picture_name_of : FontValue → ℕ → List ℕ
picture_name_of font glyph = picture_name glyph (glyph_name font glyph)

abbrev pub index_name : List ℕ
index_name = codes "index.html"

-- ---- which glyphs

-- The glyph of a unit, where it is that of a glyph.
abbrev pub glyphs_of_unit : FontValue → ℕ → List ℕ
glyphs_of_unit font unit = if nat_lt 0 unit && nat_le unit (length font.glyphs) then (unit - 1) ∷ [] else []

-- Where one unit follows another: nothing, where it is the same.
abbrev pub glyphs_at_turn : FontValue → ℕ → ℕ → List ℕ
glyphs_at_turn font unit next = if next == unit then [] else glyphs_of_unit font next

-- The glyphs of faults that follow one of a unit.
unfoldable pub glyphs_after : FontValue → ℕ → List FaultValue → List ℕ
glyphs_after font unit [] = []
glyphs_after font unit (fault ∷ faults) = glyphs_at_turn font unit fault.unit ++ glyphs_after font fault.unit faults

-- The glyphs with faults, in their order: unit 0 is the font's.
abbrev pub faulty_glyphs : FontValue → List FaultValue → List ℕ
faulty_glyphs font faults = glyphs_after font 0 faults

-- ---- the index

-- A line without its end, as t1_forms shows names.
abbrev pub shown_line : List ℕ → List ℕ
shown_line line = shown (take (length line - 1) line)

-- A line, as a text of HTML.
abbrev pub line_text : FontValue → List Waiver → FaultValue → List ℕ
line_text font waivers fault = xml_text (shown_line (line_of font waivers fault)) ++ codes "\n"

-- A part of the index begins with a heading, that of a glyph with its picture too; and its lines follow.
unfoldable pub font_part : List ℕ
font_part = codes "<h2>Font</h2>\n<pre>\n"

unfoldable pub waivers_part : List ℕ
waivers_part = codes "<h2>Waivers</h2>\n<pre>\n"

unfoldable pub glyph_part_of : List ℕ → List ℕ → List ℕ
glyph_part_of name file =
    codes "<h2>" ++ (name ++ (codes "</h2>\n<p><a href=\"" ++ (file ++ (codes "\"><img src=\"" ++ (file ++ codes "\" alt=\"\"></a></p>\n<pre>\n")))))

abbrev pub glyph_part : FontValue → ℕ → List ℕ
glyph_part font glyph = glyph_part_of (xml_text (shown (glyph_name font glyph))) (picture_name_of font glyph)

abbrev pub part_start : FontValue → ℕ → List ℕ
part_start font unit =
    if unit == 0 then font_part else (if nat_le unit (length font.glyphs) then glyph_part font (unit - 1) else waivers_part)

unfoldable pub part_end : List ℕ
part_end = codes "</pre>\n"

-- Of the unit whose part was begun, the end.
abbrev pub end_of : Option ℕ → List ℕ
end_of None = []
end_of (Some unit) = part_end

abbrev pub is_in_part : Option ℕ → ℕ → Bool
is_in_part None unit = false
is_in_part (Some begun) unit = begun == unit

-- A part ends before the next begins.
abbrev pub turn_to : FontValue → Option ℕ → ℕ → List ℕ
turn_to font begun unit = if is_in_part begun unit then [] else end_of begun ++ part_start font unit

unfoldable pub parts_from : FontValue → List Waiver → Option ℕ → List FaultValue → List ℕ
parts_from font waivers begun [] = end_of begun
parts_from font waivers begun (fault ∷ faults) =
    turn_to font begun fault.unit ++ (line_text font waivers fault ++ parts_from font waivers (Some fault.unit) faults)

unfoldable pub index_start : List ℕ
index_start =
    codes "<!DOCTYPE html>\n<html lang=\"en\">\n<head>\n<meta charset=\"utf-8\">\n<meta name=\"viewport\" content=\"width=device-width\">\n<title>Faults</title>\n<style>img { max-width: 100%; height: auto } pre { white-space: pre-wrap }</style>\n</head>\n<body>\n<h1>Faults</h1>\n"

unfoldable pub index_end : List ℕ
index_end = codes "</body>\n</html>\n"

unfoldable pub no_faults : List ℕ
no_faults = codes "<p>No fault.</p>\n"

abbrev pub parts_or_none : FontValue → List Waiver → List FaultValue → List ℕ
parts_or_none font waivers [] = no_faults
parts_or_none font waivers (fault ∷ faults) = parts_from font waivers None (fault ∷ faults)

abbrev pub index_text : FontValue → List Waiver → List FaultValue → List ℕ
index_text font waivers faults = index_start ++ (parts_or_none font waivers faults ++ index_end)

-- ---- the files

-- A file: its name in the folder, and its bytes.
pub record FolderFile : Type 0 where
  pub name : List ℕ
  pub text : List ℕ

-- A file as it is written after others: its name, a line end, how many bytes it has, a line end, and these.
abbrev pub file_text : FolderFile → List ℕ
file_text file = file.name ++ (codes "\n" ++ (decimal (length file.text) ++ (codes "\n" ++ file.text)))

abbrev pub folder_text : List FolderFile → List ℕ
folder_text files = flat_map file_text files

abbrev pub index_file : FontValue → List Waiver → List FaultValue → FolderFile
index_file font waivers faults = record { name = index_name; text = index_text font waivers faults }
