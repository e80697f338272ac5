-- Reasons on a terminal: their words, in lines that are no wider than it.
use Rattle.std.specs.Prelude.{◌++◌, ◌-◌, ◌==◌, ℕ, nat_lt, List, [], ◌∷◌, Option, None, Some, codes, if◌then◌else◌}
use Rattle.std.specs.List.{slice_split}
use Rattle.t1_printers.specs.Widths.{width_of}

-- What is between the blanks of a reason, if there is one.
abbrev pub words_of : List ℕ → List (List ℕ)
words_of text = slice_split (λ byte. byte == 32) text

abbrev pub reason_words : Option (List ℕ) → List (List ℕ)
reason_words None = []
reason_words (Some text) = words_of text

-- A word after a line with so much room: behind a blank where it fits, else in a line of its own, after three blanks.
abbrev pub word_text : ℕ → List ℕ → List ℕ
word_text room word = if nat_lt (width_of word) room then codes " " ++ word else codes "\n   " ++ word

-- The room of the line that it is in.
abbrev pub room_behind : ℕ → ℕ → List ℕ → ℕ
room_behind width room word = if nat_lt (width_of word) room then room - 1 - width_of word else width - 3 - width_of word

-- Words after a line with so much room, on a terminal that is so wide.
abbrev pub wrapped : ℕ → ℕ → List (List ℕ) → List ℕ
wrapped width room [] = []
wrapped width room (word ∷ words) = word_text room word ++ wrapped width (room_behind width room word) words
