-- Which rules the words of `--only` and `--except` choose.
use Rattle.std.specs.Prelude.{◌&&◌, ◌||◌, ◌==◌, ◌++◌, ℕ, Bool, not, List, ◌∷◌, is_some, map}
use Rattle.std.specs.Char.{to_ascii_lowercase, to_ascii_uppercase}
use Rattle.std.specs.List.{filter, flat_map, list_all, list_any, slice_split}
use Rattle.std.specs.Str.{bytes_eq}
use Rattle.clap.specs.Walk.{is_empty}
use Rattle.clap.specs.Words.{Text}
use Rattle.t1_many.specs.Choice.{Choice, picks}
use Rattle.t1_rules.specs.Book.{code_of, level_of, rules}
use Rattle.t1_rules.specs.Levels.{level_named, level_text}
use Rattle.t1_rules.specs.declared.rule.Rule.{Rule}
use Rattle.t1_options.specs.Given.{GivenValue}

abbrev pub is_comma : ℕ → Bool
is_comma byte = byte == 44

-- The values of an option in capitals, each after a comma.
abbrev pub in_capitals : List Text → Text
in_capitals values = map to_ascii_uppercase (flat_map (λ value. 44 ∷ value) values)

-- The codes between the commas of a text.
abbrev pub codes_in : Text → List Text
codes_in text = filter (λ code. not (is_empty code)) (slice_split is_comma text)

-- The codes that the uses of an option name.
abbrev pub codes_of : List Text → List Text
codes_of values = codes_in (in_capitals values)

-- Some rule has this code, or these letters.
unfoldable pub is_known : Text → Bool
is_known code = list_any (λ rule. picks (code_of rule) code) rules

-- There is a code, and each is known.
abbrev pub are_known : List Text → Bool
are_known codes = not (is_empty codes) && list_all is_known codes

-- ---- levels

-- The words that the uses of an option name, in small letters.
abbrev pub words_of : List Text → List Text
words_of values = codes_in (map to_ascii_lowercase (flat_map (λ value. 44 ∷ value) values))

-- There is a word, and each names a level.
unfoldable pub are_levels : List Text → Bool
are_levels words = not (is_empty words) && list_all (λ word. is_some (level_named word)) words

-- The rule has one of these levels, or no level is named.
unfoldable pub is_of_levels : List Text → Rule → Bool
is_of_levels words rule = is_empty words || list_any (λ word. bytes_eq word (level_text (level_of rule))) words

-- The codes of those of these rules whose levels are omitted.
unfoldable pub codes_outside : List Text → List Rule → List Text
codes_outside words list = map code_of (filter (λ rule. not (is_of_levels words rule)) list)

abbrev pub left_out : List Text → List Text
left_out words = codes_outside words rules

-- ---- the choice

-- The codes that are omitted: those that `--except` names, and those of the rules whose levels `--level` doesn't name.
abbrev pub excepted : GivenValue → List Text
excepted given = codes_of given.except ++ left_out (words_of given.level)

-- The choice that is made.
abbrev pub choice_of : GivenValue → Choice
choice_of given = record { only = codes_of given.only; except = excepted given }
