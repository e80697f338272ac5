-- Texts in XML: what it can hold, and how. Extensible Markup Language (XML) 1.0, 2.2 and 2.4.
use Rattle.std.specs.Prelude.{ℕ, ◌==◌, List, codes, if◌then◌else◌}
use Rattle.std.specs.Char.{encode_utf8}
use Rattle.std.specs.List.{flat_map}
use Rattle.std.specs.Str.{chars}
use Rattle.t1_forms.specs.Shown.{shown}

-- XML can't hold the characters U+FFFE and U+FFFF: they are written by their bytes.
abbrev pub legible_char : ℕ → List ℕ
legible_char c =
    if c == 0xFFFE then codes "\\xEF\\xBF\\xBE"
    else (if c == 0xFFFF then codes "\\xEF\\xBF\\xBF" else encode_utf8 c)

-- A name, or a line with one, as text that XML can hold.
abbrev pub legible : List ℕ → List ℕ
legible name = flat_map legible_char (chars (shown name))

-- A character of XML: `&`, `<`, `>` and `"` as entities.
abbrev pub xml_char : ℕ → List ℕ
xml_char c =
    if c == 38 then codes "&amp;"
    else (if c == 60 then codes "&lt;"
    else (if c == 62 then codes "&gt;" else (if c == 34 then codes "&quot;" else encode_utf8 c)))

abbrev pub xml_text : List ℕ → List ℕ
xml_text text = flat_map xml_char (chars text)

-- A name, or a line with one, in XML.
abbrev pub xml_name : List ℕ → List ℕ
xml_name name = xml_text (legible name)
