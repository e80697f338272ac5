-- How names are shown in a text: those of glyphs are bytes.
use Rattle.std.specs.Prelude.{ℕ, ◌+◌, ◌-◌, ◌/◌, ◌%◌, ◌==◌, ◌||◌, ◌&&◌, not, Bool, nat_lt, List, [], ◌∷◌, ◌++◌, codes, if◌then◌else◌}

-- A digit of a hexadecimal number, in upper case.
abbrev pub hexadecimal_digit : ℕ → ℕ
hexadecimal_digit digit = if nat_lt digit 10 then 48 + digit else 55 + digit

-- A byte that is shown as it is: printable ASCII other than the blank, `\` and `:`, so that no name can end a text or be read
-- as the front of a line.
abbrev pub is_shown : ℕ → Bool
is_shown byte = nat_lt 32 byte && (nat_lt byte 127 && not (byte == 92 || byte == 58))

-- `\xNN`.
abbrev pub escaped : ℕ → List ℕ
escaped byte = 92 ∷ 120 ∷ hexadecimal_digit (byte / 16) ∷ hexadecimal_digit (byte % 16) ∷ []

-- How many characters a byte is shown with.
abbrev pub width_of : ℕ → ℕ
width_of byte = if is_shown byte then 1 else 4

abbrev pub shown_byte : ℕ → List ℕ
shown_byte byte = if is_shown byte then byte ∷ [] else escaped byte

-- `…`.
abbrev pub ellipsis : List ℕ
ellipsis = 226 ∷ 128 ∷ 166 ∷ []

-- As many bytes as are shown with so many characters, then `…` where some are left.
unfoldable pub shown_within : ℕ → List ℕ → List ℕ
shown_within room [] = []
shown_within room (byte ∷ bytes) =
    if nat_lt room (width_of byte) then ellipsis else shown_byte byte ++ shown_within (room - width_of byte) bytes

-- The most characters of a name.
abbrev pub most_shown : ℕ
most_shown = 60

-- A name as it is shown.
abbrev pub shown_name : List ℕ → List ℕ
shown_name [] = codes "(empty)"
shown_name (byte ∷ bytes) = shown_within most_shown (byte ∷ bytes)
