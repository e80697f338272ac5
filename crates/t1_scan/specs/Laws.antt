-- Laws of tokens.
use Rattle.std.specs.Prelude.{◌≡◌, ◌<◌, ◌≤◌, ◌*◌, ◌↔◌, ℕ, pos, true, false, Option, Some, None, Ok, Err, List, ◌∷◌, ◌++◌, length, map}
use Rattle.std.specs.Char.{digit_value}
use Rattle.std.specs.Str.Parse.{digits_value, AllDigits}
use Rattle.t1_scan.specs.declared.error.ScanError.TheVariants.{Unclosed}
use Rattle.t1_scan.specs.Bytes.{is_blank}
use Rattle.t1_scan.specs.Lengths.{most_nested}
use Rattle.t1_scan.specs.Numbers.{number_of, scaled, billion}
use Rattle.t1_scan.specs.Tokens.{Found, token_of}
use Rattle.t1_scan.specs.Spelling.{Plain, Sign, spelled, meant, depth_of, is_plain, is_decimal, is_radix, sign_text, signed, fraction_text, decimals_of}
use Rattle.t1_scan.specs.Texts.{are_blanks, BeginsWith, IsReading, Lexeme, lexeme_of, IsReadAs, IsCoveredBy, AreReadable, written, HaveBytes}

-- what a text begins with is read
abbrev pub ReadsToken : Type 0
ReadsToken = (s : List ℕ) (t : Plain) (rest : List ℕ) → BeginsWith s t rest →
    token_of s ≡ Ok (Some (record { kind = meant t; text = spelled t; rest = rest }))

-- what is read is a token with which the text begins
abbrev pub FindsToken : Type 0
FindsToken = (s : List ℕ) (found : Found) → token_of s ≡ Ok (Some found) → IsReading s found

-- there is no token exactly where blanks and comments alone are left
abbrev pub EndsInBlanks : Type 0
EndsInBlanks = (s : List ℕ) → (token_of s ≡ Ok None) ↔ (are_blanks false s ≡ true)

-- a text is refused exactly where more is left and it begins with no token
abbrev pub RefusesTheRest : Type 0
RefusesTheRest = (s : List ℕ) → (token_of s ≡ Err Unclosed) ↔
    ((are_blanks false s ≡ false) × ((t : Plain) (rest : List ℕ) → BeginsWith s t rest → ⊥))

-- tokens written with a blank between are read as just these
abbrev pub RoundTrip : Type 0
RoundTrip = (blank : ℕ) (ts : List Plain) → is_blank blank ≡ true → AreReadable ts →
    IsReadAs (written blank ts) (map lexeme_of ts)

-- a token that nests too deep is never read, whatever follows it
abbrev pub TooDeep : Type 0
TooDeep = (t : Plain) (after : List ℕ) → is_plain t ≡ true → most_nested < depth_of t →
    token_of (spelled t ++ after) ≡ Err Unclosed

-- a number in plain decimal form has its value
abbrev pub DecimalValue : Type 0
DecimalValue = (sign : Sign) (whole : List ℕ) (fraction : Option (List ℕ)) →
    is_decimal whole fraction ≡ true →
    number_of (sign_text sign ++ (whole ++ fraction_text fraction)) ≡
    Some (signed sign (scaled whole (decimals_of fraction)))

-- a number in a base has its value
abbrev pub RadixValue : Type 0
RadixValue = (base digits : List ℕ) → is_radix base digits ≡ true →
    number_of (base ++ (35 ∷ digits)) ≡
    Some (pos (digits_value (digits_value 10 base) digits * billion))

-- at most nine digits before the point, leading zeros not counted, is a value below a billion
abbrev pub NineDigits : Type 0
NineDigits = ((ds : List ℕ) → digits_value 10 (48 ∷ ds) ≡ digits_value 10 ds)
    × ((d : ℕ) (ds : List ℕ) → AllDigits 10 (d ∷ ds) → 0 < digit_value d →
    (digits_value 10 (d ∷ ds) < billion) ↔ (length (d ∷ ds) ≤ 9))

-- the tokens of a text cover it but for blanks and comments
abbrev pub Covers : Type 0
Covers = (s : List ℕ) (ts : List Lexeme) → IsReadAs s ts → IsCoveredBy s ts

-- a text has no more tokens than bytes
abbrev pub TakesBytes : Type 0
TakesBytes = (s : List ℕ) (ts : List Lexeme) → IsReadAs s ts → HaveBytes ts × (length ts ≤ length s)
