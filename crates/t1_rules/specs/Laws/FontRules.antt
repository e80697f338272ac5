-- Laws of the table of font rules.
use Rattle.std.specs.Prelude.{◌≡◌, ◌==◌, ℕ, ◌≤◌, ◌⊎◌, Bool, true, false, List, [], ◌∷◌, map}
use Rattle.std.specs.List.{list_any, range_with_len}
use Rattle.t1_char.specs.Editions.{has_later_rules, has_latest_rules}
use Rattle.t1_char.specs.declared.edition.Edition.{Edition}
use Rattle.t1_char.specs.declared.edition.Edition.TheVariants.{Four, Three}
use Rattle.t1_font.specs.Fonts.{FontValue}
use Rattle.t1_font.specs.Values.{absent}
use Rattle.t1_font.specs.declared.key.Key.{Key}
use Rattle.t1_font.specs.declared.key.Key.TheVariants.{FontType, PaintType, Password, MinFeature, BlueValues, FontMatrix, FontBBox}
use Rattle.t1_rules.specs.declared.rule.Rule.{Rule}
use Rattle.t1_rules.specs.declared.rule.Rule.TheVariants.{F03, F04, F07, F08, F15, F16, F23, Z12}
use Rattle.t1_rules.specs.Keys.{key_number, places_of, value_at, key_count, index_count}
use Rattle.t1_rules.specs.Book.{last_number, last_number_before, last_number_of_third, number_of}
use Rattle.t1_rules.specs.FontRules.{first_font_rules, font_rules, later_font_rules, latest_font_rules, violated}

-- The rows have the numbers from 1 to 25, after number 70 from 71 to 85, and after number 93 from 94 to 101, in order and each once.
pub record RuleNumbersAreInOrder : Type 0 where
  pub first : map (λ r. number_of r.rule) first_font_rules ≡ range_with_len 1 25
  pub later : map (λ r. number_of r.rule) later_font_rules ≡ range_with_len 71 15
  pub latest : map (λ r. number_of r.rule) latest_font_rules ≡ range_with_len 94 8

-- What is broken has a number of the book, so neither 0 nor one past the last.
abbrev pub BrokenIsInTheBook : Type 0
BrokenIsInTheBook =
    (edition : Edition) (n : ℕ) (font : FontValue) (key index : ℕ) → violated (font_rules edition) n font key index ≡ true →
    (1 ≤ n) × (n ≤ last_number)

-- An edition that hasn't the rules after number 70 breaks none of them.
abbrev pub EarlierEditionsKnowNoLaterRule : Type 0
EarlierEditionsKnowNoLaterRule =
    (edition : Edition) → has_later_rules edition ≡ false → (n : ℕ) (font : FontValue) (key index : ℕ) →
    violated (font_rules edition) n font key index ≡ true → n ≤ last_number_before

-- And which of the others are broken is the same in each edition.
abbrev pub LaterRulesChangeNoOther : Type 0
LaterRulesChangeNoOther =
    (edition : Edition) (n : ℕ) (font : FontValue) (key index : ℕ) → n ≤ last_number_before →
    violated (font_rules edition) n font key index ≡ violated first_font_rules n font key index

-- An edition that hasn't the rules after number 93 breaks none of them.
abbrev pub FirstThreeKnowNoLatestRule : Type 0
FirstThreeKnowNoLatestRule =
    (edition : Edition) → has_latest_rules edition ≡ false → (n : ℕ) (font : FontValue) (key index : ℕ) →
    violated (font_rules edition) n font key index ≡ true → n ≤ last_number_of_third

-- And which of the others are broken is the same in the fourth edition as in the third.
abbrev pub FourthAgreesWithThird : Type 0
FourthAgreesWithThird =
    (n : ℕ) (font : FontValue) (key index : ℕ) → n ≤ last_number_of_third →
    violated (font_rules Four) n font key index ≡ violated (font_rules Three) n font key index

-- Nothing is broken past the places of a key.
abbrev pub NothingIsBrokenPastPlaces : Type 0
NothingIsBrokenPastPlaces =
    (edition : Edition) (font : FontValue) (key index : ℕ) → places_of edition font key ≤ index → (n : ℕ) →
    violated (font_rules edition) n font key index ≡ false

-- Nothing is broken past the last key, nor past the last index.
abbrev pub NothingIsBrokenPastLast : Type 0
NothingIsBrokenPastLast =
    (edition : Edition) (font : FontValue) (key index : ℕ) → (key_count ≤ key) ⊎ (index_count ≤ index) → (n : ℕ) →
    violated (font_rules edition) n font key index ≡ false

-- The rules that an entry breaks by not being there: of those after number 70 just F15, F16 and Z12.
abbrev pub rules_on_absence : List Rule
rules_on_absence = F03 ∷ F04 ∷ F07 ∷ F08 ∷ F15 ∷ F16 ∷ Z12 ∷ []

-- It breaks no other rule of any edition, but for F23, which counts how often an entry was given, whatever its value.
abbrev pub AbsentEntriesBreakNothing : Type 0
AbsentEntriesBreakNothing =
    (edition : Edition) (font : FontValue) (k : Key) (index n : ℕ) → value_at font k ≡ absent →
    list_any (λ r. number_of r == n) (F23 ∷ rules_on_absence) ≡ false → violated (font_rules edition) n font (key_number k) index ≡ false

-- And in the third edition it does break its rule.
pub data AsksFor : Rule → Key → Type 0 where
  font_type : AsksFor F03 FontType
  paint_type : AsksFor F04 PaintType
  password : AsksFor F07 Password
  min_feature : AsksFor F08 MinFeature
  font_matrix : AsksFor F15 FontMatrix
  font_bbox : AsksFor F16 FontBBox
  blue_values : AsksFor Z12 BlueValues

abbrev pub AbsentEntriesBreakTheirRules : Type 0
AbsentEntriesBreakTheirRules =
    (font : FontValue) (rule : Rule) (k : Key) → AsksFor rule k → value_at font k ≡ absent →
    violated (font_rules Three) (number_of rule) font (key_number k) 0 ≡ true
