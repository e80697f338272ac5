-- What an Encoding says (Type 1 Font Format, chapter 2).
use Rattle.std.specs.Prelude.{ℕ, ◌&&◌, Bool, true, false, not, nat_eq, nat_lt, Option, Some, None, List}
use Rattle.std.specs.Map.{lookup}
use Rattle.t1_font.specs.declared.encoding.Encoding.{Encoding}
use Rattle.t1_font.specs.declared.encoding.Encoding.TheVariants.{Absent, Standard, Custom, Other}
use Rattle.t1_font.specs.Fonts.{FontValue}
use Rattle.t1_font.specs.Keys.{same_name}
use Rattle.t1_rules.specs.FontRules.Glyphs.{not_defined, has_glyph}
use Rattle.t1_font.specs.Bounds.{code_count}

-- It isn't there, or of another form.
abbrev pub is_no_form : Encoding → Bool
is_no_form Absent = true
is_no_form Standard = false
is_no_form Custom = false
is_no_form Other = true

-- An array of 256 codes of the font's own.
abbrev pub is_custom : Encoding → Bool
is_custom Absent = false
is_custom Standard = false
is_custom Custom = true
is_custom Other = false

-- A name other than .notdef that no glyph has.
abbrev pub is_missing : FontValue → Option (List ℕ) → Bool
is_missing font None = false
is_missing font (Some name) = not (same_name name not_defined) && not (has_glyph font name)

-- A custom Encoding has a name for the code that no glyph has; codes are below 256.
abbrev pub encodes_missing : FontValue → ℕ → Bool
encodes_missing font code =
    nat_lt code code_count && is_custom font.encoding && is_missing font (lookup (nat_eq code) font.codes)
