-- What the texts of reasons of seac are made of: its codes, with the names that StandardEncoding has for them.
use Rattle.std.specs.Prelude.{ℕ, ℤ, Bool, true, false, is_none, Option, Some, None, List, [], ◌∷◌, ◌++◌, codes}
use Rattle.t1_reason_texts.specs.Decimals.{coordinate_text}
use Rattle.t1_font.specs.Fonts.{FontValue}
use Rattle.t1_reason_texts.specs.Names.{shown_name}
use Rattle.t1_rules.specs.declared.rule.Rule.{Rule}
use Rattle.t1_rules.specs.declared.rule.Rule.TheVariants.{K01, K02, K03}
use Rattle.t1_rules.specs.Components.{glyph_named}
use Rattle.t1_rules.specs.StandardEncoding.{standard_name}
use Rattle.t1_rules.specs.StepRules.Seac.{seac_code}

-- The name that StandardEncoding has for a code; empty where it has none, or where the number is no code.
abbrev pub name_for : Option ℕ → List ℕ
name_for None = []
name_for (Some code) = standard_name code

abbrev pub name_of_code : ℤ → List ℕ
name_of_code code = name_for (seac_code code)

abbrev pub name_words : List ℕ → List ℕ
name_words [] = codes " has no name"
name_words (letter ∷ letters) = codes " is " ++ shown_name (letter ∷ letters)

abbrev pub is_empty : List ℕ → Bool
is_empty [] = true
is_empty (letter ∷ letters) = false

-- The name of a code, and no glyph has it.
abbrev pub is_lacking : FontValue → List ℕ → Bool
is_lacking font [] = false
is_lacking font (letter ∷ letters) = is_none (glyph_named font (letter ∷ letters))

-- Which of the two codes a rule speaks of, as far as the font tells it: the one that is no code (K01), that has no name (K02), or
-- whose name no glyph has (K03). With other rules it may be either.
abbrev pub is_meant : FontValue → Rule → ℤ → Bool
is_meant font K01 code = is_none (seac_code code)
is_meant font K02 code = is_empty (name_of_code code)
is_meant font K03 code = is_lacking font (name_of_code code)
is_meant font _ code = true

-- What is said of a code: `code 194 is acute`, `code 160 has no name`.
unfoldable pub code_text : Rule → ℤ → List ℕ
code_text K01 code = codes "code is " ++ coordinate_text code
code_text K03 code = codes "code " ++ (coordinate_text code ++ (name_words (name_of_code code) ++ codes ", which is no glyph"))
code_text _ code = codes "code " ++ (coordinate_text code ++ name_words (name_of_code code))

-- The sidebearing that seac says, and that of its accent.
abbrev pub sidebearings_text : ℤ → ℤ → List ℕ
sidebearings_text told own = codes "seac says " ++ (coordinate_text told ++ (codes ", the accent's sidebearing is " ++ coordinate_text own))
