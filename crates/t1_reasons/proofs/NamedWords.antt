-- The words that reasons name are the first of their kind.
use Rattle.std.proofs.Common.{◌≡◌, ℕ, ◌==◌, ◌&&◌, ◌||◌, Bool, true, false, if◌then◌else◌, Option, Some, None, is_some, refl, sym, ap, subst, ◌∙◌}
use Rattle.std.specs.List.{find}
use Rattle.std.proofs.lemmas.Bool.{false≢true}
use Rattle.t1_char.specs.declared.edition.Edition.{Edition}
use Rattle.t1_char.specs.Editions.{has_latest_rules}
use Rattle.t1_font.specs.Fonts.{FontValue}
use Rattle.t1_font.specs.Rows.{clear_row, private_row}
use Rattle.t1_rules.specs.declared.rule.Rule.TheVariants.{F24, F25, F26}
use Rattle.t1_rules.specs.Book.{number_of}
use Rattle.t1_rules.specs.FontRules.{first_font_rules, font_rules, later_font_rules, latest_font_rules, violated}
use Rattle.t1_rules.specs.FontRules.Texts.{has_unknown_word, has_unpaired, has_unread_charstring}
use Rattle.t1_texts.specs.Given.{is_unknown}
use Rattle.t1_texts.specs.Readers.{is_unread}
use Rattle.t1_texts.specs.RowFaults.{Placed, faults_in, has_no_partner}
use Rattle.t1_reasons.specs.declared.reason.Reason.{Reason}
use Rattle.t1_reasons.specs.NamedWords.{IsNamedInTexts, IsNamedReader, NamedWordsAreTheFirst, RowTest}
use Rattle.t1_reasons.specs.StepReasons.{is_any, only_where}
use Rattle.t1_reasons.specs.TextReasons.{reader_word, text_word, unknown_word, unpaired_word, unread_word}
use Rattle.t1_reasons.proofs.FirstWords.{IsFirstIn, is_first}
use Rattle.t1_reasons.proofs.FontLaws.{font_row_decides, latest_says}

-- A rule that only tells is broken where it tells, and tells this.
record IsTold (broken : Bool) (told reason : Reason) : Type 0 where
  there : broken ≡ true
  same : told ≡ reason

is_told : (broken : Bool) (told reason : Reason) → find is_any (only_where broken told) ≡ Some reason → IsTold broken told reason
is_told true told reason e = record { there = refl; same = cc }
is_told false told reason e = let no : None ≡ Some reason = e in cc

-- A rule on the file is broken only where its test holds.
holds_of : (has a b test : Bool) → (has && (if a then b && test else false)) ≡ true → test ≡ true
holds_of true true true test e = e
holds_of true true false test e = absurd (false≢true e)
holds_of true false b test e = absurd (false≢true e)
holds_of false a b test e = absurd (false≢true e)

-- ---- from what is found to what is told

in_reader : (font : FontValue) (found : Option Placed) → is_some found ≡ true → IsFirstIn is_unread (private_row font) found
    → IsNamedReader font (reader_word found)
in_reader font None some first = absurd (false≢true some)
in_reader font (Some p) some first = first

in_texts : (is_such : RowTest) (font : FontValue) (clear private : Option Placed) → (is_some clear || is_some private) ≡ true
    → IsFirstIn is_such (clear_row font) clear → IsFirstIn is_such (private_row font) private → IsNamedInTexts is_such font (text_word clear private)
in_texts is_such font (Some p) private some first other = first
in_texts is_such font None (Some p) some none first = (none, first)
in_texts is_such font None None some none other = absurd (false≢true some)

-- ---- rules

broken_24 : (edition : Edition) (font : FontValue) (key index : ℕ) → violated (font_rules edition) (number_of F24) font key index ≡ true
    → has_unread_charstring font ≡ true
unfolding first_font_rules later_font_rules latest_font_rules
broken_24 edition font key index e =
    holds_of (has_latest_rules edition) (key == 0) (index == 0) (has_unread_charstring font)
    (sym (latest_says edition 96 refl refl font key index ∙ ap (λ b. has_latest_rules edition && b) (font_row_decides 96 latest_font_rules 2 _ refl refl refl refl font key index)) ∙ e)

broken_25 : (edition : Edition) (font : FontValue) (key index : ℕ) → violated (font_rules edition) (number_of F25) font key index ≡ true
    → has_unpaired font ≡ true
unfolding first_font_rules later_font_rules latest_font_rules
broken_25 edition font key index e =
    holds_of (has_latest_rules edition) (key == 0) (index == 0) (has_unpaired font)
    (sym (latest_says edition 97 refl refl font key index ∙ ap (λ b. has_latest_rules edition && b) (font_row_decides 97 latest_font_rules 3 _ refl refl refl refl font key index)) ∙ e)

broken_26 : (edition : Edition) (font : FontValue) (key index : ℕ) → violated (font_rules edition) (number_of F26) font key index ≡ true
    → has_unknown_word font ≡ true
unfolding first_font_rules later_font_rules latest_font_rules
broken_26 edition font key index e =
    holds_of (has_latest_rules edition) (key == 0) (index == 0) (has_unknown_word font)
    (sym (latest_says edition 98 refl refl font key index ∙ ap (λ b. has_latest_rules edition && b) (font_row_decides 98 latest_font_rules 4 _ refl refl refl refl font key index)) ∙ e)

pub named_words : NamedWordsAreTheFirst
named_words edition font F24 key index reason e =
    let told = is_told (violated (font_rules edition) (number_of F24) font key index) (unread_word font) reason e in
    subst (IsNamedReader font) told.same
    (in_reader font (faults_in (private_row font)).unread (broken_24 edition font key index told.there) (is_first is_unread (private_row font)))
named_words edition font F25 key index reason e =
    let told = is_told (violated (font_rules edition) (number_of F25) font key index) (unpaired_word font) reason e in
    subst (IsNamedInTexts has_no_partner font) told.same
    (in_texts has_no_partner font (faults_in (clear_row font)).unpaired (faults_in (private_row font)).unpaired (broken_25 edition font key index told.there)
    (is_first has_no_partner (clear_row font)) (is_first has_no_partner (private_row font)))
named_words edition font F26 key index reason e =
    let told = is_told (violated (font_rules edition) (number_of F26) font key index) (unknown_word font) reason e in
    subst (IsNamedInTexts is_unknown font) told.same
    (in_texts is_unknown font (faults_in (clear_row font)).unknown (faults_in (private_row font)).unknown (broken_26 edition font key index told.there)
    (is_first is_unknown (clear_row font)) (is_first is_unknown (private_row font)))
named_words edition font rule key index reason e = tt
