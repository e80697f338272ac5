-- What noted keys change: their own values, and nothing else.
use Rattle.std.specs.Prelude.{◌≡◌, ◌++◌, Bool, false, not, nat_le, filter, take, Result, Ok, Err, List, [], ◌∷◌, ℕ}
use Rattle.t1_seal.specs.Eexec.{private_text_of}
use Rattle.t1_seal.specs.Segments.{joined_of}
use Rattle.t1_seal.specs.declared.errors.SealError.{SealError}
use Rattle.t1_font.specs.declared.unread.Unread.{Unread}
use Rattle.t1_font.specs.ClearText.{clear_of, clear_of_by}
use Rattle.t1_font.specs.FontFiles.{before_rest, font_in, marks_in, of_seal_error, read_with}
use Rattle.t1_font.specs.Fonts.{FontValue, Marks, Stated, plain, value_of}
use Rattle.t1_font.specs.Keys.{Notes, all_notes, index_of, no_notes, taken_keys}
use Rattle.t1_font.specs.PrivateText.{private_of, private_of_by}
use Rattle.t1_font.specs.Readings.{◌>>=◌}
use Rattle.t1_font.specs.TextTurns.{TextRead}
use Rattle.t1_font.specs.Texts.{font_value_of}
use Rattle.t1_font.specs.Values.{absent}

-- A statement of a noted key, and all that is stated but these.
abbrev pub is_note : Stated → Bool
is_note (plain k t) = nat_le taken_keys (index_of k)
is_note _ = false

abbrev pub without_notes : List Stated → List Stated
without_notes es = filter (λ e. not (is_note e)) es

abbrev pub read_without : Result TextRead Unread → Result TextRead Unread
read_without (Ok read) = Ok (record { stated = without_notes read.stated; rest = read.rest })
read_without (Err e) = Err e

-- A font whose noted keys have no value, and were never stated.
abbrev pub unnoted : FontValue → FontValue
unnoted v = record v {
  plain = take taken_keys v.plain ++ absent ∷ absent ∷ absent ∷ absent ∷ [];
  key_times = take taken_keys v.key_times ++ 0 ∷ 0 ∷ 0 ∷ 0 ∷ [];
}

-- Where no key is noted a text is refused just as it is, or read to the same place, and states the same but for noted keys.
abbrev pub ClearStaysWithoutNotes : Type 0
ClearStaysWithoutNotes = (marks : Marks) (s : List ℕ) → clear_of_by no_notes marks s ≡ read_without (clear_of marks s)

abbrev pub PrivateStaysWithoutNotes : Type 0
PrivateStaysWithoutNotes = (marks : Marks) (before : List Stated) (s : List ℕ) →
    private_of_by no_notes marks (without_notes before) s ≡ read_without (private_of marks before s)

-- What is stated without them leaves the same font, whose noted keys have no value.
abbrev pub ValuesStayWithoutNotes : Type 0
ValuesStayWithoutNotes = (marks : Marks) (es : List Stated) → value_of marks (without_notes es) ≡ unnoted (value_of marks es)

-- A font's file, read where these keys are noted: its segments, its clear text, its encrypted section, its private text.
abbrev pub of_seal : {A : Type 0} → Result A SealError → Result A Unread
of_seal (Ok read) = Ok read
of_seal (Err e) = Err (of_seal_error e)

abbrev pub font_by : Notes → List ℕ → Result FontValue Unread
font_by notes bytes =
    of_seal (joined_of bytes) >>= λ joined.
    clear_of_by notes (marks_in joined) joined.bytes >>= λ clear.
    of_seal (private_text_of clear.rest) >>= λ text.
    read_with (before_rest joined.bytes clear.rest) text (font_value_of (marks_in joined) (private_of_by notes (marks_in joined) clear.stated text))

-- Where all four are noted, it's the font.
abbrev pub FontsHaveTheirNotes : Type 0
FontsHaveTheirNotes = (bytes : List ℕ) → font_by all_notes bytes ≡ font_in bytes

-- Where none is, the file is refused just as it is, or its font is the same but that the noted keys have no value.
abbrev pub unnoted_font : Result FontValue Unread → Result FontValue Unread
unnoted_font (Ok font) = Ok (unnoted font)
unnoted_font (Err e) = Err e

abbrev pub FontsStayWithoutNotes : Type 0
FontsStayWithoutNotes = (bytes : List ℕ) → font_by no_notes bytes ≡ unnoted_font (font_in bytes)
