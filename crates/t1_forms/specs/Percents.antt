-- Bytes that are written by their numbers after a `%`, as commands and URIs write them: Uniform Resource Identifiers, RFC 3986, 2.1.
use Rattle.std.specs.Prelude.{ℕ, ◌+◌, ◌*◌, ◌==◌, if◌then◌else◌, List, [], ◌∷◌, Option, None, Some}
use Rattle.std.specs.Option.{option_map_or}
use Rattle.hex.specs.Hex.{hex_digit_value}
use Rattle.t1_forms.specs.NameWords.{with_byte}

-- What is begun before a byte: nothing, `%`, or `%` and a digit of this value.
pub data Begun : Type 0 where
  nothing : Begun
  percent : Begun
  digit : ℕ → Begun

-- What bytes mean after what is begun; 37 is `%`.
unfoldable pub decoded_behind : Begun → List ℕ → Option (List ℕ)
decoded_behind nothing [] = Some []
decoded_behind _ [] = None
decoded_behind nothing (byte ∷ rest) =
    if byte == 37 then decoded_behind percent rest else with_byte byte (decoded_behind nothing rest)
decoded_behind percent (byte ∷ rest) = option_map_or (λ high. decoded_behind (digit high) rest) (hex_digit_value byte) None
decoded_behind (digit high) (byte ∷ rest) =
    option_map_or (λ low. with_byte (high * 16 + low) (decoded_behind nothing rest)) (hex_digit_value byte) None

-- What bytes mean. `%` and two hexadecimal digits are the byte of that number; every other byte is itself.
abbrev pub decoded : List ℕ → Option (List ℕ)
decoded = decoded_behind nothing
