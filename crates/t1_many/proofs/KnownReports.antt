-- Reports of which the lines beyond known faults are handed on.
use Rattle.std.proofs.Common.{◌≡◌, ℕ, Bool, true, nat_lt, List, [], ◌∷◌, ◌++◌, Option, None, Some, cond, filter, map, inl, inr, refl, sym, ap, ap₂, subst, ◌∙◌}
use Rattle.std.proofs.lemmas.Bool.{cases_Bool}
use Rattle.std.specs.List.{AllByRecursion}
use Rattle.std.specs.Str.{bytes_eq}
use Rattle.t1_font.specs.Fonts.{FontValue}
use Rattle.t1_many.proofs.FaultKinds.{unit_in}
use Rattle.t1_many.proofs.KindCounts.{count_is_found, found_is_had}
use Rattle.t1_many.proofs.TextCounts.{or_true}
use Rattle.t1_many.proofs.Texts.{itself}
use Rattle.t1_many.specs.Beyond.{verdict_beyond, verdict_of}
use Rattle.t1_many.specs.Counts.{text_counts}
use Rattle.t1_many.specs.Handing.{Handed, HandsFont, HandsOn, HandsReport, done, found_by, found_with, is_told, line, lines_by}
use Rattle.t1_many.specs.Kinds.{KindValue, counted_in}
use Rattle.t1_many.specs.Known.{kind_in, verdict_known}
use Rattle.t1_many.specs.KnownFaults.{counts_of, is_among}
use Rattle.t1_many.specs.Outcomes.{Entry, IsRead, Report, reported}
use Rattle.t1_many.specs.Private.Counts.{AreCounts, AreKnown, CountsReport}
use Rattle.t1_many.specs.Readings.{IsReading, IsReadingOf, Keeps, TakesOutcome, as_known, by_known}
use Rattle.t1_many.specs.Recipients.{recipient_by}
use Rattle.t1_many.specs.Verdicts.{told_faults}
use Rattle.t1_many.specs.declared.readings.Reading.{Reading}
use Rattle.t1_many.specs.declared.policy.Lost.{Lost}
use Rattle.t1_many.specs.declared.verdict.Verdict.{Verdict}
use Rattle.t1_report.specs.Checked.{CheckedFont}
use Rattle.t1_report.specs.Faults.{FaultValue}
use Rattle.t1_report.specs.Laws.Reports.{HasNoOtherReport}
use Rattle.t1_report.specs.Lines.{IsInFont}
use Rattle.t1_report.specs.Reports.{IsReport}
use Rattle.t1_report.specs.Waivers.{Waiver}
use Rattle.t1_rules.specs.Book.{number_of}
use Rattle.t1_rules.specs.Mask.{has}
use Rattle.t1_rules.specs.declared.mask.Mask.{Mask}

-- ---- faults that are judged alike

module _ (p q : FaultValue → Verdict) where
  told_alike : (faults : List FaultValue) → AllByRecursion (λ fault. p fault ≡ q fault) faults
      → filter (λ fault. is_told (p fault)) faults ≡ filter (λ fault. is_told (q fault)) faults
  told_alike [] same = refl
  told_alike (fault ∷ faults) same =
      ap (λ v. cond (is_told v) (fault ∷ filter (λ (f : FaultValue). is_told (p f)) faults) (filter (λ (f : FaultValue). is_told (p f)) faults)) same.0
      ∙ ap (λ (l : List FaultValue). cond (is_told (q fault)) (fault ∷ l) l) (told_alike faults same.1)

  pub found_alike : (faults : List FaultValue) → AllByRecursion (λ fault. p fault ≡ q fault) faults → found_by p faults ≡ found_by q faults
  found_alike [] same = refl
  found_alike (fault ∷ faults) same = ap (λ v. found_with v (found_by p faults)) same.0 ∙ ap (found_with (q fault)) (found_alike faults same.1)

  pub handed_alike : (name : List ℕ) (font : CheckedFont) (waivers : List Waiver) (faults : List FaultValue)
      → AllByRecursion (λ fault. p fault ≡ q fault) faults
      → lines_by p name font waivers faults ++ done name (found_by p faults) ∷ []
      ≡ lines_by q name font waivers faults ++ done name (found_by q faults) ∷ []
  handed_alike name font waivers faults same =
      ap (λ (l : List FaultValue). map (line name font waivers) l ++ done name (found_by p faults) ∷ []) (told_alike faults same)
      ∙ ap (λ f. lines_by q name font waivers faults ++ done name f ∷ []) (found_alike faults same)

all_by : {X : Type 0} (P Q : X → Type 0) → ((x : X) → P x → Q x) → (xs : List X) → AllByRecursion P xs → AllByRecursion Q xs
all_by P Q step [] all = tt
all_by P Q step (x ∷ xs) all = (step x all.0, all_by P Q step xs all.1)

module _ (font : FontValue) (waivers : List Waiver) (rules : Mask) where
  abbrev tells : FaultValue → Bool
  tells fault = has rules (number_of fault.rule)

  abbrev kinds : List FaultValue → List (List ℕ)
  kinds faults = map (kind_in font waivers) (told_faults rules faults)

  -- the kind of a fault that is reported is among theirs
  more_among : (fault x : FaultValue) (faults : List FaultValue) → is_among (kinds faults) (kind_in font waivers fault) ≡ true
      → is_among (kinds (x ∷ faults)) (kind_in font waivers fault) ≡ true
  more_among fault x faults among = elim (cases_Bool (tells x)) [
    | inl is ↦ rw (is, among) (or_true (bytes_eq (kind_in font waivers fault) (kind_in font waivers x)))
    | inr not_is ↦ rw not_is among
  ]

  itself_among : (x : FaultValue) (faults : List FaultValue) → tells x ≡ true → is_among (kinds (x ∷ faults)) (kind_in font waivers x) ≡ true
  itself_among x faults is = let self = itself (kind_in font waivers x) in rw (is, self) refl

  members : (faults : List FaultValue)
      → AllByRecursion (λ fault. tells fault ≡ true → is_among (kinds faults) (kind_in font waivers fault) ≡ true) faults
  members [] = tt
  members (x ∷ faults) = (
    itself_among x faults,
    all_by (λ fault. tells fault ≡ true → is_among (kinds faults) (kind_in font waivers fault) ≡ true)
        (λ fault. tells fault ≡ true → is_among (kinds (x ∷ faults)) (kind_in font waivers fault) ≡ true)
        (λ fault so is. more_among fault x faults (so is)) faults (members faults),
  )

  module _ (read : IsRead font waivers) (name : List ℕ) (counts : List ℕ → ℕ) (known found : List (KindValue × ℕ)) (faults : List FaultValue)
      (there : AllByRecursion (IsInFont font waivers) faults) (are_found : AreCounts (kinds faults) found)
      (are_known : AreKnown counts name found known) where
    abbrev p : FaultValue → Verdict
    p fault = verdict_beyond rules known found (counted_in font waivers fault)

    abbrev q : FaultValue → Verdict
    q = verdict_known counts rules name font waivers faults

    one_verdict : (fault : FaultValue) → IsInFont font waivers fault
        → (tells fault ≡ true → is_among (kinds faults) (kind_in font waivers fault) ≡ true) → p fault ≡ q fault
    one_verdict fault in_font so = elim (cases_Bool (tells fault)) [
      | inl is ↦
          let unit = unit_in font waivers read fault in_font in
          ap₂ (λ k n. verdict_of (tells fault) (nat_lt k n))
          (are_known (counted_in font waivers fault) (found_is_had (kinds faults) found are_found (counted_in font waivers fault) unit (so is)))
          (count_is_found (kinds faults) found are_found (counted_in font waivers fault) unit)
      | inr not_is ↦ rw not_is refl
    ]

    each : (xs : List FaultValue) → AllByRecursion (IsInFont font waivers) xs
        → AllByRecursion (λ fault. tells fault ≡ true → is_among (kinds faults) (kind_in font waivers fault) ≡ true) xs
        → AllByRecursion (λ fault. p fault ≡ q fault) xs
    each [] all so = tt
    each (x ∷ xs) all so = (one_verdict x all.0 so.0, each xs all.1 so.1)

    pub same_verdicts : AllByRecursion (λ fault. p fault ≡ q fault) faults
    same_verdicts = each faults there (members faults)

-- ---- reports

module _ {F : Type 0} (takes : F → F → Handed → Option Lost → Type 0) (rules : Mask) (name : List ℕ) where
  abbrev entry : CheckedFont → List Waiver → List FaultValue → Entry
  entry font waivers faults =
      record { name = name; outcome = reported (record { font = font.value; edition = font.edition; waivers = waivers; faults = faults }) }

  kept : (judges : Report → FaultValue → Verdict) (a b : F) (old new : List Reading) (reading : Reading) (font : CheckedFont)
      (waivers : List Waiver) (faults : List FaultValue) (before end : Option Lost)
      → HandsFont (recipient_by takes a b) judges (entry font waivers faults) before
      → IsReading name font.value waivers (told_faults rules faults) reading → Keeps old new reading before end
      → TakesOutcome (record { printer = recipient_by takes a b; old = old; new = new }) judges rules name
      (reported (record { font = font.value; edition = font.edition; waivers = waivers; faults = faults })) end
  kept judges a b old new reading font waivers faults None None hands is keeps = (hands, reading, is, keeps)
  kept judges a b old new reading font waivers faults None (Some lost) hands is (memory, keeps) = (inr (memory, hands), keeps)
  kept judges a b old new reading font waivers faults (Some before) None hands is never = absurd never
  kept judges a b old new reading font waivers faults (Some before) (Some lost) hands is (same, keeps) = (
    inl (subst (λ (l : Lost). HandsFont (recipient_by takes a b) judges (entry font waivers faults) (Some l)) (sym same) hands),
    keeps,
  )

  -- what is found becomes known
  pub report_anew : HasNoOtherReport → (font : CheckedFont) (waivers : List Waiver) (found : List (KindValue × ℕ))
      → CountsReport rules font waivers found → (reading : Reading)
      → ((kinds : List (List ℕ)) → text_counts found ≡ counts_of kinds → IsReadingOf reading (record { font = name; kinds = kinds }))
      → (a b : F) (before : Option Lost)
      → HandsReport (recipient_by takes a b) (as_known rules (record { font = font.value; edition = font.edition; waivers = waivers; faults = [] }))
      name font waivers before
      → (old new : List Reading) (end : Option Lost) → Keeps old new reading before end
      → (faults : List FaultValue) × IsReport font waivers faults
      × TakesOutcome (record { printer = recipient_by takes a b; old = old; new = new }) (as_known rules) rules name
      (reported (record { font = font.value; edition = font.edition; waivers = waivers; faults = faults })) end
  report_anew no_other font waivers found (counted, is, there, are) reading is_reading a b before (faults, report, handed) old new end keeps =
      let one : counted ≡ faults = no_other font waivers counted faults is report in (
        faults,
        report,
        kept (as_known rules) a b old new reading font waivers faults before end handed
            (subst (λ (fs : List FaultValue). IsReading name font.value waivers (told_faults rules fs) reading) one (is_reading _ are.texts)) keeps,
      )

module _ {F : Type 0} (takes : F → F → Handed → Option Lost → Type 0) (rules : Mask) (name : List ℕ) (counts : List ℕ → ℕ) where
  -- lines go beyond what is known
  pub report_kept : HasNoOtherReport → (font : CheckedFont) (waivers : List Waiver) → IsRead font.value waivers
      → (found known : List (KindValue × ℕ)) → CountsReport rules font waivers found → AreKnown counts name found known → (reading : Reading)
      → ((kinds : List (List ℕ)) → text_counts found ≡ counts_of kinds → IsReadingOf reading (record { font = name; kinds = kinds }))
      → (a b : F) (before : Option Lost)
      → HandsReport (recipient_by takes a b) (λ fault. verdict_beyond rules known found (counted_in font.value waivers fault)) name font waivers
      before
      → (old new : List Reading) (end : Option Lost) → Keeps old new reading before end
      → (faults : List FaultValue) × IsReport font waivers faults
      × TakesOutcome (record { printer = recipient_by takes a b; old = old; new = new }) (by_known counts rules name) rules name
      (reported (record { font = font.value; edition = font.edition; waivers = waivers; faults = faults })) end
  report_kept no_other font waivers read found known (counted, is, there, are) are_known reading is_reading a b before
      (faults, report, handed) old new end keeps =
      let one : faults ≡ counted = no_other font waivers faults counted report is in
      let same = same_verdicts font.value waivers rules read name counts known found counted there are are_known in
      let p : FaultValue → Verdict = λ fault. verdict_beyond rules known found (counted_in font.value waivers fault) in
      let q = verdict_known counts rules name font.value waivers counted in
      let hands : HandsOn takes a b (lines_by q name font waivers counted ++ done name (found_by q counted) ∷ []) before =
      subst (λ hs. HandsOn takes a b hs before) (handed_alike p q name font waivers counted same)
      (subst (λ (fs : List FaultValue). HandsOn takes a b (lines_by p name font waivers fs ++ done name (found_by p fs) ∷ []) before) one
      handed) in (
        counted,
        is,
        kept takes rules name (by_known counts rules name) a b old new reading font waivers counted before end hands (is_reading _ are.texts) keeps,
      )
