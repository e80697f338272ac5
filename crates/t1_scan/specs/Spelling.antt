-- Tokens in their plain form: how each kind is spelled, and what it is (Type 1 Font Format,
-- chapters 2 and 10).
use Rattle.std.specs.Prelude.{ℕ, ℤ, pos, neg_ℤ, Bool, true, false, Option, Some, None, List, [], ◌∷◌, ◌++◌, ◌+◌, ◌*◌, ◌==◌, ◌&&◌, ◌||◌, not, if◌then◌else◌, length, nat_le, nat_lt, max, is_none}
use Rattle.std.specs.List.{list_all}
use Rattle.std.specs.Str.Parse.{digits_value}
use Rattle.t1_scan.specs.declared.token.Kind.{Kind}
use Rattle.t1_scan.specs.declared.token.Kind.TheVariants.{Number, Name, Word, Text, Proc, Array}
use Rattle.t1_scan.specs.Bytes.{is_line_end, is_regular, is_decimal_digit}
use Rattle.t1_scan.specs.Numbers.{scaled, are_in_base, number_of, billion, greatest_base}

-- the inside of a string
pub data Letters : Type 0 where
  no_letters : Letters
  letter : ℕ → Letters → Letters
  escaped : ℕ → Letters → Letters
  parentheses : Letters → Letters → Letters

abbrev pub letters_text : Letters → List ℕ
letters_text no_letters = []
letters_text (letter b more) = b ∷ letters_text more
letters_text (escaped b more) = 92 ∷ b ∷ letters_text more
letters_text (parentheses inner more) = 40 ∷ (letters_text inner ++ (41 ∷ letters_text more))

-- a letter is any byte but ( ) \; an escaped byte is any byte
abbrev pub are_letters : Letters → Bool
are_letters no_letters = true
are_letters (letter b more) = not (b == 40 || b == 41 || b == 92) && are_letters more
are_letters (escaped b more) = are_letters more
are_letters (parentheses inner more) = are_letters inner && are_letters more

-- what is in an array or a procedure and isn't one: a byte; a comment, with the byte that ends its
-- line; a string; a hexadecimal string; `<<`
pub data Part : Type 0 where
  byte : ℕ → Part
  comment : List ℕ → ℕ → Part
  string : Letters → Part
  hexadecimal : List ℕ → Part
  double_angle : Part

abbrev pub part_text : Part → List ℕ
part_text (byte b) = b ∷ []
part_text (comment bytes line_end) = 37 ∷ (bytes ++ (line_end ∷ []))
part_text (string letters) = 40 ∷ (letters_text letters ++ (41 ∷ []))
part_text (hexadecimal bytes) = 60 ∷ (bytes ++ (62 ∷ []))
part_text double_angle = 60 ∷ 60 ∷ []

-- what a hexadecimal string holds: any bytes but `>`, of which the first isn't `<`
abbrev pub is_not_angle : List ℕ → Bool
is_not_angle [] = true
is_not_angle (b ∷ s) = not (b == 60)

abbrev pub are_hexadecimal : List ℕ → Bool
are_hexadecimal bytes = is_not_angle bytes && list_all (λ b. not (b == 62)) bytes

-- a byte that opens and closes nothing; in a procedure brackets are such, in an array a `}` is
abbrev pub is_idle : Bool → ℕ → Bool
is_idle in_procedure b =
    not (b == 37 || b == 40 || b == 60 || b == 123)
    && (if in_procedure then not (b == 125) else not (b == 91 || b == 93))

abbrev pub is_part : Bool → Part → Bool
is_part in_procedure (byte b) = is_idle in_procedure b
is_part in_procedure (comment bytes line_end) =
    list_all (λ b. not (is_line_end b)) bytes && is_line_end line_end
is_part in_procedure (string letters) = are_letters letters
is_part in_procedure (hexadecimal bytes) = are_hexadecimal bytes
is_part in_procedure double_angle = true

-- the inside of an array or a procedure
pub data Body : Type 0 where
  nothing : Body
  part : Part → Body → Body
  procedure : Body → Body → Body
  array : Body → Body → Body

abbrev pub body_text : Body → List ℕ
body_text nothing = []
body_text (part p more) = part_text p ++ body_text more
body_text (procedure inner more) = 123 ∷ (body_text inner ++ (125 ∷ body_text more))
body_text (array inner more) = 91 ∷ (body_text inner ++ (93 ∷ body_text more))

-- no array is in a procedure: there a bracket is a byte like others
abbrev pub is_body : Bool → Body → Bool
is_body in_procedure nothing = true
is_body in_procedure (part p more) = is_part in_procedure p && is_body in_procedure more
is_body in_procedure (procedure inner more) = is_body true inner && is_body in_procedure more
is_body in_procedure (array inner more) =
    not in_procedure && is_body false inner && is_body in_procedure more

-- how deep arrays and procedures nest in it
abbrev pub body_depth : Body → ℕ
body_depth nothing = 0
body_depth (part p more) = body_depth more
body_depth (procedure inner more) = max (1 + body_depth inner) (body_depth more)
body_depth (array inner more) = max (1 + body_depth inner) (body_depth more)

pub data Sign : Type 0 where
  no_sign : Sign
  plus : Sign
  minus : Sign

abbrev pub sign_text : Sign → List ℕ
sign_text no_sign = []
sign_text plus = 43 ∷ []
sign_text minus = 45 ∷ []

abbrev pub signed : Sign → ℕ → ℤ
signed minus n = neg_ℤ (pos n)
signed _ n = pos n

-- the decimals, after a point if there is one
abbrev pub fraction_text : Option (List ℕ) → List ℕ
fraction_text None = []
fraction_text (Some decimals) = 46 ∷ decimals

abbrev pub decimals_of : Option (List ℕ) → List ℕ
decimals_of None = []
decimals_of (Some decimals) = decimals

-- a token: `/` and a run; a run that spells no number; a number with its sign, digits and decimals;
-- a number in a base; one of ) > ] } that closes nothing; `<<`; `>>`; a string; a hexadecimal
-- string; a procedure; an array
pub data Plain : Type 0 where
  name : List ℕ → Plain
  word : List ℕ → Plain
  decimal : Sign → List ℕ → Option (List ℕ) → Plain
  radix : List ℕ → List ℕ → Plain
  single : ℕ → Plain
  double_open : Plain
  double_close : Plain
  parenthesized : Letters → Plain
  angled : List ℕ → Plain
  braced : Body → Plain
  bracketed : Body → Plain

abbrev pub spelled : Plain → List ℕ
spelled (name run) = 47 ∷ run
spelled (word run) = run
spelled (decimal sign whole fraction) = sign_text sign ++ (whole ++ fraction_text fraction)
spelled (radix base digits) = base ++ (35 ∷ digits)
spelled (single b) = b ∷ []
spelled double_open = 60 ∷ 60 ∷ []
spelled double_close = 62 ∷ 62 ∷ []
spelled (parenthesized letters) = 40 ∷ (letters_text letters ++ (41 ∷ []))
spelled (angled bytes) = 60 ∷ (bytes ++ (62 ∷ []))
spelled (braced body) = 123 ∷ (body_text body ++ (125 ∷ []))
spelled (bracketed body) = 91 ∷ (body_text body ++ (93 ∷ []))

-- what it is, a number with its value in billionths
abbrev pub meant : Plain → Kind
meant (name _) = Name
meant (word _) = Word
meant (decimal sign whole fraction) = Number (signed sign (scaled whole (decimals_of fraction)))
meant (radix base digits) = Number (pos (digits_value (digits_value 10 base) digits * billion))
meant (single _) = Word
meant double_open = Word
meant double_close = Word
meant (parenthesized _) = Text
meant (angled _) = Text
meant (braced _) = Proc
meant (bracketed _) = Array

-- how deep it nests; parentheses don't count
abbrev pub depth_of : Plain → ℕ
depth_of (braced body) = 1 + body_depth body
depth_of (bracketed body) = 1 + body_depth body
depth_of _ = 0

-- digits before a point, below a billion, and decimals; at least one of both
abbrev pub is_decimal : List ℕ → Option (List ℕ) → Bool
is_decimal whole fraction =
    list_all is_decimal_digit whole
    && list_all is_decimal_digit (decimals_of fraction)
    && not (length whole + length (decimals_of fraction) == 0)
    && nat_lt (digits_value 10 whole) billion

-- a base from 2 to the greatest, and digits of it, below a billion
abbrev pub is_radix : List ℕ → List ℕ → Bool
is_radix base digits =
    list_all is_decimal_digit base
    && not (length base == 0)
    && nat_le 2 (digits_value 10 base)
    && nat_le (digits_value 10 base) greatest_base
    && not (length digits == 0)
    && are_in_base (digits_value 10 base) digits
    && nat_lt (digits_value (digits_value 10 base) digits) billion

abbrev pub is_plain : Plain → Bool
is_plain (name run) = list_all is_regular run
is_plain (word run) = list_all is_regular run && not (length run == 0) && is_none (number_of run)
is_plain (decimal sign whole fraction) = is_decimal whole fraction
is_plain (radix base digits) = is_radix base digits
is_plain (single b) = b == 41 || b == 62 || b == 93 || b == 125
is_plain double_open = true
is_plain double_close = true
is_plain (parenthesized letters) = are_letters letters
is_plain (angled bytes) = are_hexadecimal bytes
is_plain (braced body) = is_body true body
is_plain (bracketed body) = is_body false body
