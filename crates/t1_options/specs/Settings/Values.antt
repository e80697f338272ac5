-- What the value of a key gives, if it is one of the key.
use Rattle.std.specs.Prelude.{◌||◌, ◌==◌, ℕ, ℤ, pos, int_lt, unsigned_abs, Bool, List, [], ◌∷◌, Option, None, Some, if◌then◌else◌, codes, map, option_and_then, option_map}
use Rattle.std.specs.List.{list_any}
use Rattle.std.specs.Path.{path_join}
use Rattle.t1_char.specs.Editions.{digit_of, edition_numbered}
use Rattle.toml.specs.Data.{Data, Items, as_array, as_integer, as_str, item, no_items}
use Rattle.t1_options.specs.Settings.Paths.{glob_below}
use Rattle.t1_many.specs.Unchecked.{has_line_end}
use Rattle.t1_options.specs.Values.{file_in}

-- A NUL and a line end can't be part of an option's value.
abbrev pub is_unfit : List ℕ → Bool
is_unfit text = list_any (λ byte. byte == 0) text || has_line_end text

abbrev pub fit : List ℕ → Option (List ℕ)
fit text = if is_unfit text then None else Some text

-- A string that can be.
abbrev pub text_in : Data → Option (List ℕ)
text_in value = option_and_then fit (as_str value)

-- The texts of an array that has nothing else.
abbrev pub texts_in : Items → Option (List (List ℕ))
texts_in no_items = Some []
texts_in (item value rest) = option_and_then (λ text. option_map (λ more. text ∷ more) (texts_in rest)) (text_in value)

abbrev pub alone : List ℕ → List (List ℕ)
alone text = text ∷ []

-- Texts in an array, or one text alone.
abbrev pub texts_or_one : Option Items → Data → Option (List (List ℕ))
texts_or_one None value = option_map alone (text_in value)
texts_or_one (Some items) value = texts_in items

abbrev pub list_in : Data → Option (List (List ℕ))
list_in value = texts_or_one (as_array value) value

-- A file below a folder. Its name is not empty.
abbrev pub file_below : List ℕ → Data → Option (List ℕ)
file_below folder value = option_map (path_join folder) (option_and_then file_in (text_in value))

-- The number of an edition of the rule book as a text.
abbrev pub edition_text : ℤ → Option (List ℕ)
edition_text number =
    if int_lt number (pos 0) then None else option_map digit_of (edition_numbered (unsigned_abs number))

abbrev pub edition_in : Data → Option (List ℕ)
edition_in value = option_and_then edition_text (as_integer value)

-- Names of rules or levels: at least one, since none would choose nothing.
abbrev pub some_texts : List (List ℕ) → Option (List (List ℕ))
some_texts [] = None
some_texts (text ∷ more) = Some (text ∷ more)

abbrev pub names_in : Data → Option (List (List ℕ))
names_in value = option_and_then some_texts (list_in value)

-- Globs that match below a folder.
abbrev pub globs_below : List ℕ → Data → Option (List (List ℕ))
globs_below folder value = option_map (map (glob_below folder)) (list_in value)
