-- Lists of names.
use Rattle.std.specs.Prelude.{◌==◌, ◌&&◌, ℕ, Bool, not, List, count_by, filter, length, map, nat_lt}
use Rattle.std.specs.List.{slice_split}
use Rattle.std.specs.Str.{is_utf8}
use Rattle.t1_names.specs.Words.{file_name}

-- The lines of a text. What is after the last line end is one too.
abbrev pub lines_of : List ℕ → List (List ℕ)
lines_of text = slice_split (λ byte. byte == 10) text

-- A line that names something: a text that isn't empty.
abbrev pub is_word : List ℕ → Bool
is_word line = is_utf8 line && nat_lt 0 (length line)

-- The names in a list. `-` is that of a file there.
abbrev pub words_in : List ℕ → List (List ℕ)
words_in text = map file_name (filter is_word (lines_of text))

-- How many lines of a list aren't UTF-8.
abbrev pub unreadable_in : List ℕ → ℕ
unreadable_in text = count_by (λ line. not (is_utf8 line)) (lines_of text)
