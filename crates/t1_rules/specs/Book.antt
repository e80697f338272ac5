-- The rule book: each rule with its number, its level, its code and its text.
use Rattle.std.specs.Prelude.{ℕ, if◌then◌else◌, List, [], ◌∷◌, Option, Some, None, codes}
use Rattle.t1_font.specs.Keys.{same_name}
use Rattle.t1_rules.specs.declared.level.Level.{Level}
use Rattle.t1_rules.specs.declared.level.Level.TheVariants.{Must, Should, Tidy}
use Rattle.t1_rules.specs.declared.rule.Rule.{Rule}
use Rattle.t1_rules.specs.declared.rule.Rule.TheVariants.{F01, F02, F03, F04, F05, F06, F07, F08, F09, F10, F11, F12, F13, F14, Z01, Z02, Z03, Z04, Z05, Z06, Z07, Z08, Z09, Z10, Z11, C01, C02, C03, C04, C05, C06, C07, C08, C09, S01, S02, S03, S04, GE01, GE02, W01, W02, P01, P02, P03, H01, H02, H03, H04, R01, R02, X01, X02, X03, X04, X05, X06, O01, O02, O03, O04, K01, K02, K03, K04, K05, K06, K07, L01, U01, F15, F16, F17, F18, F19, F20, F21, Z12, Z13, Z14, Z15, Z16, Z17, Z18, Z19, H05, H06, H07, O05, O06, O07, O08, W03, F22, F23, F24, F25, F26, F27, F28, F29, P04, P05, P06, P07, P08, P09, P10, P11, H08, H09, H10}

-- An entry of the book: a rule's number, which is its place there, from 1 on; how much a violation matters; the
-- rule's code, as it is in a line of the report; and what is reported of a violation.
pub record Entry : Type 0 where
  pub number : ℕ
  pub level : Level
  pub code : List ℕ
  pub text : List ℕ

abbrev pub entry : ℕ → Level → List ℕ → List ℕ → Entry
entry number level code text = record { number = number; level = level; code = code; text = text }

abbrev pub entry_of : Rule → Entry
entry_of F01 = entry 1 Should (codes "F01") (codes "no end segment")
entry_of F02 = entry 2 Tidy (codes "F02") (codes "bytes after the end segment")
entry_of F03 = entry 3 Must (codes "F03") (codes "FontType is not 1")
entry_of F04 = entry 4 Must (codes "F04") (codes "PaintType is not 0 or 2")
entry_of F05 = entry 5 Must (codes "F05") (codes "UniqueID out of range")
entry_of F06 = entry 6 Must (codes "F06") (codes "UniqueIDs differ")
entry_of F07 = entry 7 Must (codes "F07") (codes "password is not 5839")
entry_of F08 = entry 8 Must (codes "F08") (codes "MinFeature is not {16 16}")
entry_of F09 = entry 9 Must (codes "F09") (codes "no .notdef")
entry_of F10 = entry 10 Must (codes "F10") (codes "glyph given twice")
entry_of F11 = entry 11 Must (codes "F11") (codes "Encoding of another form")
entry_of F12 = entry 12 Must (codes "F12") (codes "code past 255")
entry_of F13 = entry 13 Should (codes "F13") (codes "encoded glyph missing")
entry_of F14 = entry 14 Must (codes "F14") (codes "Subr given twice or past the array")
entry_of Z01 = entry 15 Must (codes "Z01") (codes "value of another kind")
entry_of Z02 = entry 16 Must (codes "Z02") (codes "too many zone numbers")
entry_of Z03 = entry 17 Must (codes "Z03") (codes "odd count of zone numbers")
entry_of Z04 = entry 18 Should (codes "Z04") (codes "zone numbers fall")
entry_of Z05 = entry 19 Should (codes "Z05") (codes "zones too near")
entry_of Z06 = entry 20 Should (codes "Z06") (codes "zones of two lists too near")
entry_of Z07 = entry 21 Should (codes "Z07") (codes "zone too high for BlueScale")
entry_of Z08 = entry 22 Must (codes "Z08") (codes "not one standard width")
entry_of Z09 = entry 23 Must (codes "Z09") (codes "too many stem snaps")
entry_of Z10 = entry 24 Should (codes "Z10") (codes "stem snaps fall")
entry_of Z11 = entry 25 Should (codes "Z11") (codes "standard width not among the snaps")
entry_of C01 = entry 26 Must (codes "C01") (codes "shorter than lenIV")
entry_of C02 = entry 27 Must (codes "C02") (codes "breaks off in a token")
entry_of C03 = entry 28 Must (codes "C03") (codes "unknown command")
entry_of C04 = entry 29 Must (codes "C04") (codes "too few arguments")
entry_of C05 = entry 30 Must (codes "C05") (codes "too many arguments")
entry_of C06 = entry 31 Must (codes "C06") (codes "more than 24 numbers")
entry_of C07 = entry 32 Must (codes "C07") (codes "number out of range")
entry_of C08 = entry 33 Must (codes "C08") (codes "quotient out of range")
entry_of C09 = entry 34 Must (codes "C09") (codes "division by zero")
entry_of S01 = entry 35 Must (codes "S01") (codes "no such Subr")
entry_of S02 = entry 36 Must (codes "S02") (codes "calls nested too deep")
entry_of S03 = entry 37 Must (codes "S03") (codes "return outside a Subr")
entry_of S04 = entry 38 Must (codes "S04") (codes "Subr without return")
entry_of GE01 = entry 39 Must (codes "GE01") (codes "no endchar")
entry_of GE02 = entry 40 Tidy (codes "GE02") (codes "tokens after the end")
entry_of W01 = entry 41 Must (codes "W01") (codes "hsbw or sbw not first")
entry_of W02 = entry 42 Must (codes "W02") (codes "hsbw or sbw again")
entry_of P01 = entry 43 Must (codes "P01") (codes "drawing without a move")
entry_of P02 = entry 44 Should (codes "P02") (codes "path not closed")
entry_of P03 = entry 45 Tidy (codes "P03") (codes "closepath without a path")
entry_of H01 = entry 46 Should (codes "H01") (codes "stem after drawing")
entry_of H02 = entry 47 Should (codes "H02") (codes "stems overlap")
entry_of H03 = entry 48 Should (codes "H03") (codes "stem of zero width")
entry_of H04 = entry 49 Should (codes "H04") (codes "unequal stem3")
entry_of R01 = entry 50 Must (codes "R01") (codes "no pop after hint replacement")
entry_of R02 = entry 51 Must (codes "R02") (codes "no callsubr after hint replacement")
entry_of X01 = entry 52 Must (codes "X01") (codes "flex inside flex")
entry_of X02 = entry 53 Must (codes "X02") (codes "flex call outside flex")
entry_of X03 = entry 54 Must (codes "X03") (codes "command inside flex")
entry_of X04 = entry 55 Must (codes "X04") (codes "flex points are not seven pairs")
entry_of X05 = entry 56 Must (codes "X05") (codes "flex ends elsewhere")
entry_of X06 = entry 57 Must (codes "X06") (codes "setcurrentpoint outside flex")
entry_of O01 = entry 58 Must (codes "O01") (codes "unknown OtherSubr")
entry_of O02 = entry 59 Must (codes "O02") (codes "bad OtherSubr count")
entry_of O03 = entry 60 Must (codes "O03") (codes "wrong count for this OtherSubr")
entry_of O04 = entry 61 Must (codes "O04") (codes "pop of nothing")
entry_of K01 = entry 62 Must (codes "K01") (codes "seac code is not 0 to 255")
entry_of K02 = entry 63 Must (codes "K02") (codes "seac code not in StandardEncoding")
entry_of K03 = entry 64 Must (codes "K03") (codes "seac component missing")
entry_of K04 = entry 65 Must (codes "K04") (codes "seac of a seac")
entry_of K05 = entry 66 Must (codes "K05") (codes "accent sidebearing differs")
entry_of K06 = entry 67 Must (codes "K06") (codes "seac beside other commands")
entry_of K07 = entry 68 Must (codes "K07") (codes "seac component without sidebearing")
entry_of L01 = entry 69 Must (codes "L01") (codes "step limit")
entry_of U01 = entry 70 Should (codes "U01") (codes "waiver not used")
entry_of F15 = entry 71 Should (codes "F15") (codes "FontMatrix is not six numbers")
entry_of F16 = entry 72 Must (codes "F16") (codes "FontBBox is not four numbers")
entry_of F17 = entry 73 Should (codes "F17") (codes "FontBBox has its corners exchanged")
entry_of F18 = entry 74 Tidy (codes "F18") (codes "XUID malformed")
entry_of F19 = entry 75 Tidy (codes "F19") (codes "XUID number out of range")
entry_of F20 = entry 76 Should (codes "F20") (codes "LanguageGroup is not 0 or 1")
entry_of F21 = entry 77 Should (codes "F21") (codes "Subr has no return")
entry_of Z12 = entry 78 Must (codes "Z12") (codes "no BlueValues")
entry_of Z13 = entry 79 Should (codes "Z13") (codes "standard width is not above 0")
entry_of Z14 = entry 80 Should (codes "Z14") (codes "zone number is not whole")
entry_of Z15 = entry 81 Should (codes "Z15") (codes "stem snaps equal")
entry_of Z16 = entry 82 Tidy (codes "Z16") (codes "no stem snap beside a standard width")
entry_of Z17 = entry 83 Should (codes "Z17") (codes "BlueScale out of range")
entry_of Z18 = entry 84 Should (codes "Z18") (codes "BlueShift out of range")
entry_of Z19 = entry 85 Should (codes "Z19") (codes "BlueFuzz out of range")
entry_of H05 = entry 86 Should (codes "H05") (codes "stem below half a unit")
entry_of H06 = entry 87 Must (codes "H06") (codes "stem beside stem3")
entry_of H07 = entry 88 Must (codes "H07") (codes "another stem3")
entry_of O05 = entry 89 Must (codes "O05") (codes "counter control not at the start")
entry_of O06 = entry 90 Must (codes "O06") (codes "counter control again")
entry_of O07 = entry 91 Must (codes "O07") (codes "counter control leaves numbers")
entry_of O08 = entry 92 Must (codes "O08") (codes "counter control has no end")
entry_of W03 = entry 93 Must (codes "W03") (codes "OtherSubr before hsbw or sbw")
entry_of F22 = entry 94 Should (codes "F22") (codes "byte above 126 in the clear text")
entry_of F23 = entry 95 Should (codes "F23") (codes "key given twice")
entry_of F24 = entry 96 Must (codes "F24") (codes "charstring word not defined")
entry_of F25 = entry 97 Must (codes "F25") (codes "brace or bracket without a partner")
entry_of F26 = entry 98 Must (codes "F26") (codes "unknown word")
entry_of F27 = entry 99 Must (codes "F27") (codes "FontMatrix can't be inverted")
entry_of F28 = entry 100 Must (codes "F28") (codes "no Private dictionary")
entry_of F29 = entry 101 Must (codes "F29") (codes "unusual first line")
entry_of P04 = entry 102 Should (codes "P04") (codes "point outside FontBBox")
entry_of P05 = entry 103 Should (codes "P05") (codes "outline runs clockwise")
entry_of P06 = entry 104 Tidy (codes "P06") (codes "segment of no length")
entry_of P07 = entry 105 Tidy (codes "P07") (codes "line turns back")
entry_of P08 = entry 106 Tidy (codes "P08") (codes "line goes straight on")
entry_of P09 = entry 107 Tidy (codes "P09") (codes "flat curve")
entry_of P10 = entry 108 Tidy (codes "P10") (codes "no point at an extreme")
entry_of P11 = entry 109 Tidy (codes "P11") (codes "move right behind a move")
entry_of H08 = entry 110 Should (codes "H08") (codes "stem that nothing touches")
entry_of H09 = entry 111 Tidy (codes "H09") (codes "stems share an edge")
entry_of H10 = entry 112 Tidy (codes "H10") (codes "stem of negative width")

abbrev pub number_of : Rule → ℕ
number_of rule = (entry_of rule).number

-- How much a violation of a rule matters.
abbrev pub level_of : Rule → Level
level_of rule = (entry_of rule).level

abbrev pub code_of : Rule → List ℕ
code_of rule = (entry_of rule).code

abbrev pub text_of : Rule → List ℕ
text_of rule = (entry_of rule).text

-- The greatest number of a rule of the first two editions, of the third, and of a rule.
abbrev pub last_number_before : ℕ
last_number_before = 70

abbrev pub last_number_of_third : ℕ
last_number_of_third = 93

abbrev pub last_number : ℕ
last_number = 112

-- All rules, in the order of their numbers.
abbrev pub rules : List Rule
rules =
    F01 ∷ F02 ∷ F03 ∷ F04 ∷ F05 ∷ F06 ∷ F07 ∷ F08 ∷ F09 ∷ F10 ∷ F11 ∷ F12 ∷ F13 ∷ F14
    ∷ Z01 ∷ Z02 ∷ Z03 ∷ Z04 ∷ Z05 ∷ Z06 ∷ Z07 ∷ Z08 ∷ Z09 ∷ Z10 ∷ Z11 ∷ C01 ∷ C02 ∷ C03
    ∷ C04 ∷ C05 ∷ C06 ∷ C07 ∷ C08 ∷ C09 ∷ S01 ∷ S02 ∷ S03 ∷ S04 ∷ GE01 ∷ GE02 ∷ W01 ∷ W02
    ∷ P01 ∷ P02 ∷ P03 ∷ H01 ∷ H02 ∷ H03 ∷ H04 ∷ R01 ∷ R02 ∷ X01 ∷ X02 ∷ X03 ∷ X04 ∷ X05
    ∷ X06 ∷ O01 ∷ O02 ∷ O03 ∷ O04 ∷ K01 ∷ K02 ∷ K03 ∷ K04 ∷ K05 ∷ K06 ∷ K07 ∷ L01 ∷ U01
    ∷ F15 ∷ F16 ∷ F17 ∷ F18 ∷ F19 ∷ F20 ∷ F21 ∷ Z12 ∷ Z13 ∷ Z14 ∷ Z15 ∷ Z16 ∷ Z17 ∷ Z18 ∷ Z19
    ∷ H05 ∷ H06 ∷ H07 ∷ O05 ∷ O06 ∷ O07 ∷ O08 ∷ W03
    ∷ F22 ∷ F23 ∷ F24 ∷ F25 ∷ F26 ∷ F27 ∷ F28 ∷ F29
    ∷ P04 ∷ P05 ∷ P06 ∷ P07 ∷ P08 ∷ P09 ∷ P10 ∷ P11 ∷ H08 ∷ H09 ∷ H10 ∷ []

-- The first of these rules that has a code.
unfoldable pub coded_in : List ℕ → List Rule → Option Rule
coded_in code [] = None
coded_in code (rule ∷ rest) = if same_name (code_of rule) code then Some rule else coded_in code rest

-- The rule of a code.
abbrev pub rule_coded : List ℕ → Option Rule
rule_coded code = coded_in code rules
