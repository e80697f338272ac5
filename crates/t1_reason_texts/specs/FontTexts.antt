-- What the texts of reasons that entries of a font have are made of, beside its zones and stem widths.
use Rattle.std.specs.Prelude.{ℕ, ℤ, ◌==◌, nat_eq, Bool, true, false, List, [], ◌++◌, codes, if◌then◌else◌}
use Rattle.std.specs.Map.{lookup}
use Rattle.std.specs.Option.{unwrap_or}
use Rattle.std.specs.Fmt.{decimal}
use Rattle.t1_reason_texts.specs.Decimals.{decimal_by}
use Rattle.t1_font.specs.declared.encoding.Encoding.{Encoding}
use Rattle.t1_font.specs.declared.encoding.Encoding.TheVariants.{Absent as NoEncoding, Standard, Custom, Other as OtherEncoding}
use Rattle.t1_font.specs.Fonts.{FontValue}
use Rattle.t1_reasons.specs.declared.reason.Found.{Found}
use Rattle.t1_reasons.specs.declared.reason.Found.TheVariants.{Absent, One, Other, Several}
use Rattle.t1_reason_texts.specs.Words.{numbers_text}
use Rattle.t1_rules.specs.declared.rule.Rule.{Rule}
use Rattle.t1_rules.specs.declared.rule.Rule.TheVariants.{F03, F04, F05, F07, F15, F16, F18, F20, F23, Z08, Z12, Z17, Z18, Z19}

-- A number of a dictionary.
abbrev pub value_text : ℤ → List ℕ
value_text number = decimal_by 1000000000 number

-- ---- what an entry is

-- The entry that a rule speaks of.
abbrev pub entry_name : Rule → List ℕ
entry_name F03 = codes "FontType"
entry_name F04 = codes "PaintType"
entry_name F05 = codes "UniqueID"
entry_name F07 = codes "password"
entry_name F15 = codes "FontMatrix"
entry_name F16 = codes "FontBBox"
entry_name F18 = codes "XUID"
entry_name F20 = codes "LanguageGroup"
entry_name Z12 = codes "BlueValues"
entry_name Z17 = codes "BlueScale"
entry_name Z18 = codes "BlueShift"
entry_name Z19 = codes "BlueFuzz"
entry_name _ = codes "it"

-- What would do.
abbrev pub entry_needed : Rule → List ℕ
entry_needed F03 = codes "; 1 is needed"
entry_needed F04 = codes "; 0 or 2 is needed"
entry_needed F05 = codes "; 0 to 16777215 is needed"
entry_needed F07 = codes "; 5839 is needed"
entry_needed Z08 = codes "; 1 is needed"
entry_needed F15 = codes "; 6 numbers are needed"
entry_needed F16 = codes "; 4 numbers are needed"
entry_needed F18 = codes "; a list of numbers is needed"
entry_needed F20 = codes "; 0 or 1 is needed"
entry_needed Z17 = codes "; more than 0 and at most 0.5 is needed"
entry_needed Z18 = codes "; a whole number from 0 on is needed"
entry_needed Z19 = codes "; a whole number from 0 to 10 is needed"
entry_needed _ = []

-- What would do where there is no entry: no zones are zones too.
abbrev pub absent_needed : Rule → List ℕ
absent_needed Z12 = codes "; [] would do"
absent_needed _ = []

-- Z08 speaks of how many numbers there are, and four rules of a list of numbers; the others speak of one number.
abbrev pub counts_numbers : Rule → Bool
counts_numbers Z08 = true
counts_numbers _ = false

abbrev pub lists_numbers : Rule → Bool
lists_numbers F15 = true
lists_numbers F16 = true
lists_numbers F18 = true
lists_numbers Z12 = true
lists_numbers _ = false

-- How many numbers a list should have.
abbrev pub count_needed : Rule → List ℕ
count_needed F15 = codes "; 6 are needed"
count_needed F16 = codes "; 4 are needed"
count_needed _ = []

abbrev pub several_text : Rule → ℕ → List ℕ
several_text rule count =
    if counts_numbers rule then numbers_text count ++ entry_needed rule
    else (if lists_numbers rule then entry_name rule ++ (codes " has " ++ (numbers_text count ++ count_needed rule)) else entry_name rule ++ codes " is no number")

abbrev pub entry_text : Rule → Found → List ℕ
entry_text rule Absent = entry_name rule ++ (codes " is not there" ++ absent_needed rule)
entry_text rule (One number) = entry_name rule ++ (codes " is " ++ (value_text number ++ entry_needed rule))
entry_text rule (Several count) = several_text rule count
entry_text rule Other = entry_name rule ++ (if lists_numbers rule then codes " is no list of numbers" else codes " is no number")

-- What an entry is, whatever its name.
abbrev pub found_text : Found → List ℕ
found_text Absent = codes "it is not there"
found_text (One number) = codes "it is the number " ++ value_text number
found_text (Several count) = codes "it is a list of " ++ numbers_text count
found_text Other = codes "it is neither a number nor a list of numbers"

-- F23 speaks of the last of several entries.
abbrev pub says_last : Rule → Bool
says_last F23 = true
says_last _ = false

-- What form the Encoding has.
abbrev pub form_words : Encoding → List ℕ
form_words NoEncoding = codes "it is not there"
form_words Standard = codes "it is StandardEncoding"
form_words Custom = codes "it is an array of 256 names"
form_words OtherEncoding = codes "it is neither StandardEncoding nor an array of 256 names"

-- Whether an entry has two numbers.
abbrev pub has_two : Found → Bool
has_two (Several count) = count == 2
has_two _ = false

-- The name that a custom Encoding has for a code.
abbrev pub encoded_name : FontValue → ℕ → List ℕ
encoded_name font code = unwrap_or (lookup (nat_eq code) font.codes) []

-- A Subr that is given twice, or past the size of the Subrs.
unfoldable pub subr_entry_text : ℕ → Bool → Bool → ℕ → List ℕ
subr_entry_text number twice is_past size =
    if twice
    then (if is_past then codes "Subr " ++ (decimal number ++ (codes " is given twice, and is past the size " ++ decimal size))
    else codes "Subr " ++ (decimal number ++ codes " is given twice"))
    else (if is_past then codes "Subr " ++ (decimal number ++ (codes " is past the size " ++ decimal size))
    else codes "Subr " ++ (decimal number ++ codes " is there"))
