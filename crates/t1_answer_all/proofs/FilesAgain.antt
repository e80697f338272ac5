-- Two checks of the same files find the same, and what they find can become known.
use Rattle.std.proofs.Common.{◌≡◌, ◌<◌, ◌==◌, ℕ, Bool, true, false, cond, nat_lt, List, [], ◌∷◌, length, map, Option, None, Some, Result, Ok, Err, IfOk, if◌then◌else◌, inl, inr, refl, sym, ap, ap₂, subst, ◌∙◌, arith}
use Rattle.std.proofs.lemmas.Bool.{cases_Bool, true≢false}
use Rattle.std.specs.List.{AllByRecursion, IsDistinct, flat_map}
use Rattle.std.specs.Str.{bytes_eq}
use Rattle.t1_answer_all.specs.Modes.{entry_readings, outcome_readings}
use Rattle.t1_char.specs.declared.edition.Edition.{Edition}
use Rattle.t1_font.proofs.LimitsKept.{fonts_within_limits}
use Rattle.t1_font.specs.FontFiles.{font_in}
use Rattle.t1_font.specs.Fonts.{FontValue}
use Rattle.t1_font.specs.declared.unread.Unread.{Unread}
use Rattle.t1_io.specs.Devices.{SourceState}
use Rattle.t1_known.proofs.FoundKinds.{reports_are_readable}
use Rattle.t1_known.specs.Laws.{UpdatesAreReached}
use Rattle.t1_known.specs.Lines.{has_no_line_end}
use Rattle.t1_known.specs.Readings.{IsReadable}
use Rattle.t1_report.specs.Refusals.{Refusal}
use Rattle.t1_many.specs.Ends.{AreChecked}
use Rattle.t1_many.specs.Files.{ChecksIn, HasNoWaivers, IsFound, files_by, given_by}
use Rattle.t1_many.specs.Files.ChecksIn.{cannot_open, cannot_open_waivers, no_line, with_waivers, without_waivers}
use Rattle.t1_many.specs.Files.IsFound.{breaks, breaks_waivers, no_memory, refused, reports, waivers_refused}
use Rattle.t1_many.specs.FontErrors.{error_of}
use Rattle.t1_many.specs.FontFiles.{asks}
use Rattle.t1_many.specs.Laws.{KindsNameTheirRules}
use Rattle.t1_many.specs.Outcomes.{Entry, IsRead, Outcome, Report, failed, reported}
use Rattle.t1_many.specs.Unchecked.{has_line_end}
use Rattle.t1_many.specs.declared.font_error.FontError.TheVariants.{Unchecked}
use Rattle.t1_many.specs.declared.font_error.Obstacle.TheVariants.{LineEnd}
use Rattle.t1_many.specs.declared.font_files.WaiverFiles.{WaiverFiles}
use Rattle.t1_names.proofs.OnceLaws.{none_is_twice}
use Rattle.t1_report.proofs.OneReport.{no_other_report}
use Rattle.t1_report.specs.Checked.{checked}
use Rattle.t1_report.specs.Faults.{FaultValue}
use Rattle.t1_report.specs.Reports.{IsReport}
use Rattle.t1_report.specs.Waivers.{Waiver, lines_from, lines_read, waivers_of}
use Rattle.t1_rules.specs.declared.mask.Mask.{Mask}
use Rattle.t1_run.proofs.FewRead.{AreFew, HasFew, of_file, of_text}
use Rattle.t1_run.specs.Failures.{failure_of}
use Rattle.t1_run.specs.FontFiles.{font_of, with_reason}
use Rattle.t1_run.specs.WaiverFiles.{AreWaived, as_waivers, waivers_in}
use Rattle.t1_answer_all.proofs.QuietAgain.{all-append, quiet_again}
use Rattle.t1_answer_all.specs.Laws.{AnUpdateOfFilesIsQuietNextTime, AreCheckedIn, CanBeKnown, IsChecked, IsQuiet, holding}

-- The waivers of a font that has this text of them, if it has one.
abbrev waived_by : Edition → Option (List ℕ) → Result (List Waiver) Refusal
waived_by edition None = Ok []
waived_by edition (Some text) = waivers_in edition text

-- How a font is found by its file's bytes and the text of its waivers, where no read fails and memory doesn't run out.
data IsSure (edition : Edition) (bytes : List ℕ) (text : Option (List ℕ)) (name : List ℕ) (outcome : Outcome) : Type 0 where
  sure_report :
      (report : Report) → font_of bytes ≡ Ok report.font → waived_by edition text ≡ Ok report.waivers → report.edition ≡ edition
      → IsReport (checked report.font edition) report.waivers report.faults → 0 < length name → outcome ≡ reported report
      → IsSure edition bytes text name outcome
  sure_refused :
      (reason : Refusal) → font_of bytes ≡ Err reason → outcome ≡ failed (error_of (failure_of reason)) → IsSure edition bytes text name outcome
  sure_waivers :
      (font : FontValue) (reason : Refusal) → font_of bytes ≡ Ok font → waived_by edition text ≡ Err reason
      → outcome ≡ failed (error_of (failure_of reason)) → IsSure edition bytes text name outcome

-- The same by its name too.
data IsSureNamed (edition : Edition) (bytes : List ℕ) (text : Option (List ℕ)) (name : List ℕ) (outcome : Outcome) : Type 0 where
  sure_unnamed : has_line_end name ≡ true → outcome ≡ failed (Unchecked LineEnd) → IsSureNamed edition bytes text name outcome
  sure_named : has_line_end name ≡ false → IsSure edition bytes text name outcome → IsSureNamed edition bytes text name outcome

-- The text of a font's waivers that counts: that of its file, where it is asked for.
abbrev asked_text : WaiverFiles → (List ℕ → Option (List ℕ)) → List ℕ → Option (List ℕ)
asked_text beside text_of name = if asks beside name then text_of name else None

module _ (bytes_of : List ℕ → List ℕ) (text_of : List ℕ → Option (List ℕ)) (beside : WaiverFiles) (edition : Edition) (name : List ℕ) where
  none_asked : (asked : Bool) (old new : Unit {0}) → HasNoWaivers (holding bytes_of text_of) asked name old new
      → (if asked then text_of name else None) ≡ None
  none_asked true old new none = none
  none_asked false old new none = refl

  -- by the bytes of the font, and the text of its waivers where it has some
  found_so : (bytes : List ℕ) (text : Option (List ℕ)) (asked : Bool) (source source' waivers waivers' : SourceState) → source.left ≡ Some bytes
      → ((waived : Result (List Waiver) Refusal) → AreWaived edition asked waivers.left waived → waived_by edition text ≡ waived) → 0 < length name
      → (outcome : Outcome) → IsFound edition (given_by edition source source' asked waivers waivers') outcome → IsChecked outcome
      → IsSure edition bytes text name outcome
  found_so bytes text asked source source' waivers waivers' is waives named outcome (reports report reads waived edition_is made same) checks =
      sure_report report (rw is at reads.0) (waives (Ok report.waivers) waived.0) edition_is made named same
  found_so bytes text asked source source' waivers waivers' is waives named outcome (refused reason reads same) checks =
      sure_refused reason (rw is at reads.0) same
  found_so bytes text asked source source' waivers waivers' is waives named outcome (waivers_refused font reads reason waived same) checks =
      sure_waivers font reason (rw is at reads.0) (waives (Err reason) waived.0) same
  found_so bytes text asked source source' waivers waivers' is waives named outcome (breaks broken same) checks = absurd (subst IsChecked same checks)
  found_so bytes text asked source source' waivers waivers' is waives named outcome (breaks_waivers font reads broken same) checks =
      absurd (subst IsChecked same checks)
  found_so bytes text asked source source' waivers waivers' is waives named outcome (no_memory same) checks = absurd (subst IsChecked same checks)

  sure : (old new : Unit {0}) (outcome : Outcome) → ChecksIn (files_by (holding bytes_of text_of) beside old new) edition name outcome → IsChecked outcome
      → IsSureNamed edition (bytes_of name) (asked_text beside text_of name) name outcome
  sure old new outcome (no_line ends same is) checks = sure_unnamed ends is
  sure old new outcome (cannot_open plain cause opens same) checks = absurd (subst IsChecked same checks)
  sure old new outcome (cannot_open_waivers plain opened asked source opens asks_is cause none leaves same) checks = absurd (subst IsChecked same checks)
  sure old new outcome (without_waivers plain opened asked source source' waivers waivers' opens none leaves few found) checks =
      sure_named plain
      (found_so (bytes_of name) (asked_text beside text_of name) false source source' waivers waivers' opens.1
      (λ waived is. ap (waived_by edition) (none_asked (asks beside name) opened asked none) ∙ is) opens.0 outcome found checks)
  sure old new outcome (with_waivers plain opened asked left source source' waivers waivers' opens asks_is some leaves leaves' few few' found) checks =
      let text_is : asked_text beside text_of name ≡ Some some.0 = rw asks_is some.1 in
      sure_named plain
      (found_so (bytes_of name) (asked_text beside text_of name) true source source' waivers waivers' opens.1
      (λ waived is. ap (waived_by edition) text_is ∙ (rw some.2 at is)) opens.0 outcome found checks)

-- ---- the same is found again

abbrev made : FontValue → Edition → List Waiver → List FaultValue → Outcome
made font edition waivers faults = reported (record { font = font; edition = edition; waivers = waivers; faults = faults })

ok_same : {T E : Type 0} (a b : T) (r : Result T E) → r ≡ Ok a → r ≡ Ok b → a ≡ b
ok_same a b (Ok c) is_a is_b = (let one : c ≡ a = cc in let other : c ≡ b = cc in sym one ∙ other)
ok_same a b (Err e) is_a is_b = cc

err_same : {T E : Type 0} (a b : E) (r : Result T E) → r ≡ Err a → r ≡ Err b → a ≡ b
err_same a b (Ok c) is_a is_b = cc
err_same a b (Err c) is_a is_b = (let one : c ≡ a = cc in let other : c ≡ b = cc in sym one ∙ other)

either : {T E : Type 0} (a : T) (b : E) (r : Result T E) → r ≡ Ok a → r ≡ Err b → ⊥
either a b (Ok c) is_a is_b = cc
either a b (Err c) is_a is_b = cc

module _ (edition : Edition) (bytes : List ℕ) (text : Option (List ℕ)) (name : List ℕ) where
  same_reports : (a b : Report) → a.font ≡ b.font → a.waivers ≡ b.waivers → a.edition ≡ edition → b.edition ≡ edition
      → IsReport (checked a.font edition) a.waivers a.faults
      → IsReport (checked b.font edition) b.waivers b.faults → reported a ≡ reported b
  same_reports a b fonts waivers edition_a edition_b is_a is_b =
      let of_font : IsReport (checked b.font edition) a.waivers a.faults =
      subst (λ (f : FontValue). IsReport (checked f edition) a.waivers a.faults) fonts is_a in
      let of_both : IsReport (checked b.font edition) b.waivers a.faults =
      subst (λ (ws : List Waiver). IsReport (checked b.font edition) ws a.faults) waivers of_font in
      let faults : a.faults ≡ b.faults = no_other_report (checked b.font edition) b.waivers a.faults b.faults of_both is_b in
      ap (λ (f : FontValue). made f a.edition a.waivers a.faults) fonts
      ∙ ap (λ (e : Edition). made b.font e a.waivers a.faults) (edition_a ∙ sym edition_b)
      ∙ ap (λ (ws : List Waiver). made b.font b.edition ws a.faults) waivers ∙ ap (made b.font b.edition b.waivers) faults

  same_outcome : (a b : Outcome) → IsSure edition bytes text name a → IsSure edition bytes text name b → a ≡ b
  same_outcome a b (sure_report r font waived dated is named at) (sure_report r' font' waived' dated' is' named' at') =
      at ∙ same_reports r r' (ok_same r.font r'.font (font_of bytes) font font') (ok_same r.waivers r'.waivers (waived_by edition text) waived waived')
      dated dated' is is'
      ∙ sym at'
  same_outcome a b (sure_refused why font at) (sure_refused why' font' at') =
      at ∙ ap (λ (w : Refusal). failed (error_of (failure_of w))) (err_same why why' (font_of bytes) font font') ∙ sym at'
  same_outcome a b (sure_waivers f why font waived at) (sure_waivers f' why' font' waived' at') =
      at ∙ ap (λ (w : Refusal). failed (error_of (failure_of w))) (err_same why why' (waived_by edition text) waived waived') ∙ sym at'
  same_outcome a b (sure_report r font waived dated is named at) (sure_refused why font' at') = absurd (either r.font why (font_of bytes) font font')
  same_outcome a b (sure_report r font waived dated is named at) (sure_waivers f why font' waived' at') =
      absurd (either r.waivers why (waived_by edition text) waived waived')
  same_outcome a b (sure_refused why font at) (sure_report r font' waived dated is named at') = absurd (either r.font why (font_of bytes) font' font)
  same_outcome a b (sure_refused why font at) (sure_waivers f why' font' waived at') = absurd (either f why (font_of bytes) font' font)
  same_outcome a b (sure_waivers f why font waived at) (sure_report r font' waived' dated is named at') =
      absurd (either r.waivers why (waived_by edition text) waived' waived)
  same_outcome a b (sure_waivers f why font waived at) (sure_refused why' font' at') = absurd (either f why' (font_of bytes) font font')

  same_named : (a b : Outcome) → IsSureNamed edition bytes text name a → IsSureNamed edition bytes text name b → a ≡ b
  same_named a b (sure_unnamed ends is) (sure_unnamed ends' is') = is ∙ sym is'
  same_named a b (sure_unnamed ends is) (sure_named plain found) = absurd (true≢false (sym ends ∙ plain))
  same_named a b (sure_named plain found) (sure_unnamed ends is) = absurd (true≢false (sym ends ∙ plain))
  same_named a b (sure_named plain found) (sure_named plain' found') = same_outcome a b found found'

module _ (bytes_of : List ℕ → List ℕ) (text_of : List ℕ → Option (List ℕ)) (beside : WaiverFiles) (edition : Edition) where
  abbrev IsFoundSo : Entry → Type 0
  IsFoundSo entry = (old : Unit {0}) × (new : Unit {0}) × ChecksIn (files_by (holding bytes_of text_of) beside old new) edition entry.name entry.outcome

  each_found : (entries : List Entry) (old new : Unit {0}) → AreChecked (files_by (holding bytes_of text_of) beside old new) edition entries
      → AllByRecursion IsFoundSo entries
  each_found [] old new same = tt
  each_found (entry ∷ entries) old new (next, one, others) = ((old, next, one), each_found entries next new others)

  sure_of : (entry : Entry) → IsFoundSo entry → IsChecked entry.outcome
      → IsSureNamed edition (bytes_of entry.name) (asked_text beside text_of entry.name) entry.name entry.outcome
  sure_of entry (old, new, found) checks = sure bytes_of text_of beside edition entry.name old new entry.outcome found checks

  same_entry : (a b : Entry) → a.name ≡ b.name → IsFoundSo a → IsChecked a.outcome → IsFoundSo b → IsChecked b.outcome → a ≡ b
  same_entry a b names found_a checks_a found_b checks_b =
      let sure_a : IsSureNamed edition (bytes_of b.name) (asked_text beside text_of b.name) b.name a.outcome =
      subst (λ (n : List ℕ). IsSureNamed edition (bytes_of n) (asked_text beside text_of n) n a.outcome) names (sure_of a found_a checks_a) in
      let outcomes = same_named edition (bytes_of b.name) (asked_text beside text_of b.name) b.name a.outcome b.outcome sure_a (sure_of b found_b checks_b) in
      ap₂ (λ (n : List ℕ) (o : Outcome). record { name = n; outcome = o }) names outcomes

  same_entries : (xs ys : List Entry) → map (λ (e : Entry). e.name) xs ≡ map (λ (e : Entry). e.name) ys
      → AllByRecursion IsFoundSo xs → AllByRecursion (λ e. IsChecked e.outcome) xs
      → AllByRecursion IsFoundSo ys → AllByRecursion (λ e. IsChecked e.outcome) ys → xs ≡ ys
  same_entries [] [] names found_x checks_x found_y checks_y = refl
  same_entries [] (y ∷ ys) names found_x checks_x found_y checks_y = cc
  same_entries (x ∷ xs) [] names found_x checks_x found_y checks_y = cc
  same_entries (x ∷ xs) (y ∷ ys) names found_x checks_x found_y checks_y =
      let first : x.name ≡ y.name = cc in
      let others : map (λ (e : Entry). e.name) xs ≡ map (λ (e : Entry). e.name) ys = cc in
      ap₂ (λ (e : Entry) (es : List Entry). e ∷ es) (same_entry x y first found_x.0 checks_x.0 found_y.0 checks_y.0)
      (same_entries xs ys others found_x.1 checks_x.1 found_y.1 checks_y.1)

-- ---- it can become known

with_reason_of : (read : Result FontValue Unread) (large : Bool) (reason : Refusal) (font : FontValue)
    → cond large (Err reason) (with_reason read) ≡ Ok font → read ≡ Ok font
with_reason_of (Ok f) true reason font is = cc
with_reason_of (Ok f) false reason font is = (let same : f ≡ font = cc in ap Ok same)
with_reason_of (Err e) true reason font is = cc
with_reason_of (Err e) false reason font is = cc

font_is : (bytes : List ℕ) (font : FontValue) → font_of bytes ≡ Ok font → font_in bytes ≡ Ok font
unfolding font_of
font_is bytes font is = with_reason_of (font_in bytes) (nat_lt 16777216 (length bytes)) _ font is

as_waivers_of : (read : Option (List Waiver)) (large : Bool) (reason : Refusal) (waivers : List Waiver)
    → cond large (Err reason) (as_waivers read) ≡ Ok waivers → read ≡ Some waivers
as_waivers_of (Some ws) true reason waivers is = cc
as_waivers_of (Some ws) false reason waivers is = (let same : ws ≡ waivers = cc in ap Some same)
as_waivers_of None true reason waivers is = cc
as_waivers_of None false reason waivers is = cc

waivers_are : (edition : Edition) (text : List ℕ) (waivers : List Waiver) → waivers_in edition text ≡ Ok waivers → waivers_of edition text ≡ Some waivers
unfolding waivers_in
waivers_are edition text waivers is = as_waivers_of (waivers_of edition text) (nat_lt 1048576 (length text)) _ waivers is

if_ok : {T E : Type 0} (P : T → Type 0) (r : Result T E) (x : T) → IfOk r P → r ≡ Ok x → P x
if_ok P r x holds is = rw is at holds

none_read : (edition : Edition) → waivers_of edition [] ≡ Some []
unfolding lines_from lines_read
none_read edition = refl

read_of : (edition : Edition) (bytes : List ℕ) (text : Option (List ℕ)) (font : FontValue) (waivers : List Waiver) → font_of bytes ≡ Ok font
    → waived_by edition text ≡ Ok waivers → IsRead font waivers
read_of edition bytes None font waivers is waived = record {
  bytes = bytes;
  font_is = font_is bytes font is;
  text = [];
  edition = edition;
  waivers_are = (let same : [] ≡ waivers = cc in none_read edition ∙ ap Some same);
  few = if_ok HasFew (font_of bytes) font (of_file fonts_within_limits bytes) is;
  few_waivers = (let same : [] ≡ waivers = cc in subst AreFew same (omega arith));
}
read_of edition bytes (Some text) font waivers is waived = record {
  bytes = bytes;
  font_is = font_is bytes font is;
  text = text;
  edition = edition;
  waivers_are = waivers_are edition text waivers waived;
  few = if_ok HasFew (font_of bytes) font (of_file fonts_within_limits bytes) is;
  few_waivers = if_ok AreFew (waivers_in edition text) waivers (of_text edition text) waived;
}

readable_outcome : (rules : Mask) (edition : Edition) (bytes : List ℕ) (text : Option (List ℕ)) (name : List ℕ) (outcome : Outcome)
    → has_no_line_end name ≡ true → IsSure edition bytes text name outcome
    → AllByRecursion IsReadable (outcome_readings rules name outcome)
readable_outcome rules edition bytes text name outcome in_line (sure_report report font waived dated is named same) =
    subst (λ o. AllByRecursion IsReadable (outcome_readings rules name o)) (sym same) (
      reports_are_readable name report.font report.waivers report.faults edition rules (read_of edition bytes text report.font report.waivers font waived) is named
          in_line,
      tt,
    )
readable_outcome rules edition bytes text name outcome in_line (sure_refused reason font same) =
    subst (λ o. AllByRecursion IsReadable (outcome_readings rules name o)) (sym same) tt
readable_outcome rules edition bytes text name outcome in_line (sure_waivers f reason font waived same) =
    subst (λ o. AllByRecursion IsReadable (outcome_readings rules name o)) (sym same) tt

no_line_end : (name : List ℕ) → has_line_end name ≡ false → has_no_line_end name ≡ true
no_line_end [] none = refl
no_line_end (byte ∷ name) none = elim (cases_Bool (byte == 10)) [
  | inl is ↦ (let bad : true ≡ false = rw is at none in cc)
  | inr other ↦ (let more : has_line_end name ≡ false = rw other at none in rw other (no_line_end name more))
]

readable_named : (rules : Mask) (edition : Edition) (bytes : List ℕ) (text : Option (List ℕ)) (name : List ℕ) (outcome : Outcome)
    → IsSureNamed edition bytes text name outcome → AllByRecursion IsReadable (outcome_readings rules name outcome)
readable_named rules edition bytes text name outcome (sure_unnamed ends same) =
    subst (λ o. AllByRecursion IsReadable (outcome_readings rules name o)) (sym same) tt
readable_named rules edition bytes text name outcome (sure_named plain found) =
    readable_outcome rules edition bytes text name outcome (no_line_end name plain) found

module _ (bytes_of : List ℕ → List ℕ) (text_of : List ℕ → Option (List ℕ)) (beside : WaiverFiles) (edition : Edition) (rules : Mask) where
  readable_entries : (entries : List Entry) → AllByRecursion (IsFoundSo bytes_of text_of beside edition) entries
      → AllByRecursion (λ e. IsChecked e.outcome) entries → AllByRecursion IsReadable (flat_map (entry_readings rules) entries)
  readable_entries [] found checks = tt
  readable_entries (e ∷ es) found checks =
      all-append IsReadable (entry_readings rules e) (flat_map (entry_readings rules) es)
      (readable_named rules edition (bytes_of e.name) (asked_text beside text_of e.name) e.name e.outcome
      (sure_of bytes_of text_of beside edition e found.0 checks.0))
      (readable_entries es found.1 checks.1)

  can_be_known : (listed : List (List ℕ)) (entries : List Entry) → AreCheckedIn bytes_of text_of beside edition listed entries → CanBeKnown rules entries
  can_be_known listed entries are = record {
    once = subst (IsDistinct bytes_eq) (sym are.named) (none_is_twice listed);
    readable = readable_entries entries (each_found bytes_of text_of beside edition entries tt tt are.found) are.checked;
  }

pub files_quiet_again : UpdatesAreReached → KindsNameTheirRules → AnUpdateOfFilesIsQuietNextTime
files_quiet_again reached name_rules bytes_of text_of beside edition listed entries again choice rules text rows known first second chosen before
    after =
    let same : entries ≡ again = same_entries bytes_of text_of beside edition entries again (first.named ∙ sym second.named)
    (each_found bytes_of text_of beside edition entries tt tt first.found) first.checked
    (each_found bytes_of text_of beside edition again tt tt second.found) second.checked in
    subst (IsQuiet choice rules known) same
    (quiet_again reached name_rules choice rules entries text rows known chosen
    (can_be_known bytes_of text_of beside edition rules listed entries first) before after)
