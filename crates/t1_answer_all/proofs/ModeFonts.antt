-- Fonts that were checked in each mode.
use Rattle.std.proofs.Common.{◌≡◌, ◌⊎◌, ℕ, List, [], ◌∷◌, ◌++◌, Option, None, Some, Result, inl, inr, refl, sym, ap, ap₂, subst, ◌∙◌, append-nil}
use Rattle.std.specs.List.{AllZip, flat_map}
use Rattle.t1_answer_all.proofs.CountedFonts.{Takes}
use Rattle.t1_answer_all.proofs.FontsTaken.{AreFindings, checks_fonts, flat_map-push}
use Rattle.t1_answer_all.specs.Checks.{ChecksFonts, EndsRun}
use Rattle.t1_answer_all.specs.Modes.{ModeValue, anew, beyond, counts_in, entry_readings, judges_of, outcome_readings, readings_of, told, waived, waivers_of}
use Rattle.t1_answer_all.specs.Plans.{Run, judges_in}
use Rattle.t1_answer_all.specs.declared.findings.Findings.{Findings}
use Rattle.t1_many.specs.Handing.{Handed, HandsFont, HandsOn, Keeping, handed_of, lost_of}
use Rattle.t1_many.specs.KnownFaults.{Reading, RowValue}
use Rattle.t1_many.specs.Outcomes.{Entry, Outcome, Report, failed, reported}
use Rattle.t1_many.specs.Readings.{IsReadingOf, TakesKnown, TakesOutcome, as_known, by_known}
use Rattle.t1_many.specs.Recipients.{recipient_by}
use Rattle.t1_many.specs.Verdicts.{of_rules}
use Rattle.t1_many.specs.declared.policy.Lost.{Lost}
use Rattle.t1_many.specs.declared.policy.Lost.TheVariants.{Memory}
use Rattle.t1_many.specs.declared.readings.Reading.{Reading as Kept}
use Rattle.t1_many.specs.declared.verdict.Verdict.{Verdict}
use Rattle.t1_report.specs.Faults.{FaultValue}
use Rattle.t1_rules.specs.declared.mask.Mask.{Mask}
use Rattle.t1_summary.specs.Tallies.{tally_of}
use Rattle.t1_summary.specs.declared.tally.Tally.{Tally}
use Rattle.t1_waiving.specs.FontTexts.{FontText, all_texts, entry_texts}
use Rattle.t1_waiving.specs.GlyphLines.{but_waived}
use Rattle.t1_waiving.specs.Waived.{WaivesFont}

abbrev Judges : Type 0
Judges = List ℕ → Report → FaultValue → Verdict

zip-append : {A B : Type 0} (R : A → B → Type 0) (xs xs' : List A) (ys ys' : List B) → AllZip R xs ys → AllZip R xs' ys'
    → AllZip R (xs ++ xs') (ys ++ ys')
zip-append R [] xs' [] ys' none more = more
zip-append R [] xs' (y ∷ ys) ys' bad more = absurd bad
zip-append R (x ∷ xs) xs' [] ys' bad more = absurd bad
zip-append R (x ∷ xs) xs' (y ∷ ys) ys' (first, rest) more = (first, zip-append R xs xs' ys ys' rest more)

none_kept : (readings : List Kept) → readings ≡ [] → AllZip IsReadingOf readings []
none_kept readings none = subst (λ (rs : List Kept). AllZip IsReadingOf rs []) (sym none) tt

-- ---- by known faults, one font

module _ {C : Type 0} (takes : C → C → Handed → Option Lost → Type 0) (judge : Report → FaultValue → Verdict) (mask : Mask) (a b : C)
    (old new : List Kept) (name : List ℕ) where
  abbrev keeping : Keeping Kept
  keeping = record { printer = recipient_by takes a b; old = old; new = new }

  known_taken : (outcome : Outcome) (before : List Reading) → AllZip IsReadingOf old before → TakesOutcome keeping judge mask name outcome None
      → HandsOn takes a b (handed_of judge name outcome) None × AllZip IsReadingOf new (before ++ outcome_readings mask name outcome)
  known_taken (reported report) before texts (hands, reading, is, keeps) = (
    hands,
    subst (λ (rs : List Kept). AllZip IsReadingOf rs (before ++ outcome_readings mask name (reported report))) (sym keeps)
        (zip-append IsReadingOf old (reading ∷ []) before (outcome_readings mask name (reported report)) texts (is, tt)),
  )
  known_taken (failed reason) before texts (hands, same) = (
    hands,
    subst (λ (rs : List Kept). AllZip IsReadingOf rs (before ++ [])) (sym same)
        (subst (λ (bs : List Reading). AllZip IsReadingOf old bs) (sym (append-nil before)) texts),
  )

  known_stopped : (outcome : Outcome) (lost : Lost) → TakesOutcome keeping judge mask name outcome (Some lost)
      → (stop : Option Lost) × HandsOn takes a b (handed_of judge name outcome) stop × ((stop ≡ Some lost) ⊎ (lost ≡ Memory))
  known_stopped (reported report) lost (inl hands, same) = (Some lost, hands, inl refl)
  known_stopped (reported report) lost (inr (memory, hands), same) = (None, hands, inr memory)
  known_stopped (failed reason) lost (hands, same) = (Some lost, hands, inl refl)

-- ---- all fonts

module _ {T C F : Type 0} (takes : F → F → Handed → Option Lost → Type 0) (printer : C → F) (tally : C → Tally) (form : T → C) (rules : T → Mask)
    (run : Run) (old new : T) (end : Option Lost) (result : Result Findings Lost) (readings : List Kept) (waivers : List FontText)
    (end_is : lost_of result ≡ end) (none : tally (form old) ≡ tally_of [] []) (findings : AreFindings (tally (form new)) readings waivers result)
    (rules_are : rules old ≡ run.plan.rules) where
  abbrev Counting : C → C → Handed → Option Lost → Type 0
  Counting = Takes takes printer tally

  -- what is kept in a mode
  in_mode : (mode : ModeValue) → run.plan.mode ≡ mode → (entries : List Entry) → AllZip IsReadingOf readings (readings_of mode run.plan.rules entries)
      → waivers ≡ waivers_of mode run.plan.rules entries
      → AllZip IsReadingOf readings (readings_of run.plan.mode run.plan.rules entries) × (waivers ≡ waivers_of run.plan.mode run.plan.rules entries)
  in_mode mode mode_is entries texts waivers_are = (
    subst (λ (m : ModeValue). AllZip IsReadingOf readings (readings_of m run.plan.rules entries)) (sym mode_is) texts,
    subst (λ (m : ModeValue). waivers ≡ waivers_of m run.plan.rules entries) (sym mode_is) waivers_are,
  )

  -- what is handed on by what judges in a mode
  judged : (judges : Mask → Judges) (a b : T) (entry : Entry) (lost : Option Lost) → judges run.plan.rules ≡ judges_in run.plan
      → rules a ≡ run.plan.rules → HandsFont (recipient_by Counting (form a) (form b)) (judges (rules a) entry.name) entry lost
      → HandsOn Counting (form a) (form b) (handed_of (judges_in run.plan entry.name) entry.name entry.outcome) lost
  judged judges a b entry lost judges_are is hands =
      subst (λ (j : Judges). HandsFont (recipient_by Counting (form a) (form b)) (j entry.name) entry lost) (ap judges is ∙ judges_are) hands

  abbrev TakesTold : T → T → Entry → Option Lost → Type 0
  TakesTold a b entry lost = (rules b ≡ rules a) × HandsFont (recipient_by Counting (form a) (form b)) (of_rules (rules a)) entry lost

  pub told_fonts : run.plan.mode ≡ told → readings ≡ [] → waivers ≡ [] → EndsRun (recipient_by TakesTold old new) run end
      → ChecksFonts takes run (printer (form old)) (printer (form new)) result
  told_fonts mode_is no_readings no_waivers ends =
      let judges : Mask → Judges = λ mask name. of_rules mask in
      let judges_are : judges run.plan.rules ≡ judges_in run.plan = ap (λ (mode : ModeValue). judges_of mode run.plan.rules) (sym mode_is) in
      checks_fonts takes printer tally form run TakesTold (λ t done. rules t ≡ run.plan.rules)
      (record {
        taken = λ a b done entry holds took. (judged judges a b entry None judges_are holds took.1, took.0 ∙ holds);
        stopped_at = λ a b done entry lost holds took. (Some lost, judged judges a b entry (Some lost) judges_are holds took.1, inl refl);
      }) old new end result readings waivers end_is none findings rules_are
      (λ entries holds. in_mode told mode_is entries (none_kept readings no_readings) no_waivers) ends

  module _ (kept : T → List FontText) where
    abbrev TakesWaived : T → T → Entry → Option Lost → Type 0
    TakesWaived a b entry lost = (rules b ≡ rules a)
        × WaivesFont (record { printer = recipient_by Counting (form a) (form b); old = kept a; new = kept b }) (rules a) entry lost

    pub waived_fonts : run.plan.mode ≡ waived → readings ≡ [] → kept old ≡ [] → waivers ≡ kept new → EndsRun (recipient_by TakesWaived old new) run end
        → ChecksFonts takes run (printer (form old)) (printer (form new)) result
    waived_fonts mode_is no_readings begun waivers_are ends =
        let judges_are : but_waived run.plan.rules ≡ judges_in run.plan = ap (λ (mode : ModeValue). judges_of mode run.plan.rules) (sym mode_is) in
        checks_fonts takes printer tally form run TakesWaived (λ t done. (rules t ≡ run.plan.rules) × (kept t ≡ all_texts run.plan.rules done))
        (record {
          taken = λ a b done entry holds took. (
            judged but_waived a b entry None judges_are holds.0 took.1.hands,
            (
              took.0 ∙ holds.0,
              took.1.keeps ∙ ap₂ (λ (ts : List FontText) (mask : Mask). ts ++ entry_texts mask entry) holds.1 holds.0
                  ∙ sym (flat_map-push (entry_texts run.plan.rules) done entry),
            ),
          );
          stopped_at = λ a b done entry lost holds took. (Some lost, judged but_waived a b entry (Some lost) judges_are holds.0 took.1.hands, inl refl);
        }) old new end result readings waivers end_is none findings (rules_are, begun)
        (λ entries holds. in_mode waived mode_is entries (none_kept readings no_readings) (waivers_are ∙ holds.1)) ends

  -- ---- by known faults

  module _ (kept : T → List Kept) (judges : T → Judges) (takes_font : T → T → Entry → Option Lost → Type 0) where
    -- A font is taken, and what decides the next one stays.
    record TakesFont (a b : T) (entry : Entry) (lost : Option Lost) : Type 0 where
      pub rules_stay : rules b ≡ rules a
      pub judges_stay : judges b ≡ judges a
      pub outcome :
          TakesKnown (record { printer = recipient_by Counting (form a) (form b); old = kept a; new = kept b }) (judges a entry.name) (rules a) entry lost

    record HoldsOf (t : T) (done : List Entry) : Type 0 where
      pub rules_are_of : rules t ≡ run.plan.rules
      pub judges_are_of : judges t ≡ judges_in run.plan
      pub texts : AllZip IsReadingOf (kept t) (flat_map (entry_readings run.plan.rules) done)

    known_fonts : ((a b : T) (entry : Entry) (lost : Option Lost) → takes_font a b entry lost → TakesFont a b entry lost)
        → judges old ≡ judges_in run.plan → kept old ≡ []
        → ((entries : List Entry) → AllZip IsReadingOf (kept new) (flat_map (entry_readings run.plan.rules) entries)
        → AllZip IsReadingOf readings (readings_of run.plan.mode run.plan.rules entries) × (waivers ≡ waivers_of run.plan.mode run.plan.rules entries))
        → EndsRun (recipient_by takes_font old new) run end → ChecksFonts takes run (printer (form old)) (printer (form new)) result
    known_fonts each judges_are begun keeps ends =
        let outcome : (a b : T) (entry : Entry) (lost : Option Lost) (done : List Entry) → HoldsOf a done → TakesFont a b entry lost
        → TakesKnown (record { printer = recipient_by Counting (form a) (form b); old = kept a; new = kept b }) (judges_in run.plan entry.name)
        run.plan.rules entry lost =
        λ a b entry lost done holds on.
        subst (λ (j : Judges). TakesKnown (record { printer = recipient_by Counting (form a) (form b); old = kept a; new = kept b }) (j entry.name)
        run.plan.rules entry lost) holds.judges_are_of
        (subst (λ (m : Mask). TakesKnown (record { printer = recipient_by Counting (form a) (form b); old = kept a; new = kept b })
        (judges a entry.name) m entry lost) holds.rules_are_of on.outcome) in
        checks_fonts takes printer tally form run takes_font HoldsOf
        (record {
          taken = λ a b done entry holds took.
              let on = each a b entry None took in
              let one = known_taken Counting (judges_in run.plan entry.name) run.plan.rules (form a) (form b) (kept a) (kept b) entry.name entry.outcome
              (flat_map (entry_readings run.plan.rules) done) holds.texts (outcome a b entry None done holds on) in (
                one.0,
                record {
                  rules_are_of = on.rules_stay ∙ holds.rules_are_of;
                  judges_are_of = on.judges_stay ∙ holds.judges_are_of;
                  texts = subst (λ (rs : List Reading). AllZip IsReadingOf (kept b) rs) (sym (flat_map-push (entry_readings run.plan.rules) done entry)) one.1;
                },
              );
          stopped_at = λ a b done entry lost holds took.
              known_stopped Counting (judges_in run.plan entry.name) run.plan.rules (form a) (form b) (kept a) (kept b) entry.name entry.outcome lost
              (outcome a b entry (Some lost) done holds (each a b entry (Some lost) took));
        }) old new end result readings waivers end_is none findings
        (record { rules_are_of = rules_are; judges_are_of = judges_are; texts = none_kept (kept old) begun })
        (λ entries holds. keeps entries holds.texts) ends

  module _ {K : Type 0} (kept : T → List Kept) (known : T → K) (counts : K → List ℕ → ℕ) where
    abbrev TakesBeyond : T → T → Entry → Option Lost → Type 0
    TakesBeyond a b entry lost = (rules b ≡ rules a) × (known b ≡ known a)
        × TakesKnown (record { printer = recipient_by Counting (form a) (form b); old = kept a; new = kept b })
        (by_known (counts (known a)) (rules a) entry.name) (rules a) entry lost

    pub beyond_fonts : (rows : List RowValue) → run.plan.mode ≡ beyond rows → counts (known old) ≡ counts_in rows → kept old ≡ [] → readings ≡ kept new
        → waivers ≡ [] → EndsRun (recipient_by TakesBeyond old new) run end → ChecksFonts takes run (printer (form old)) (printer (form new)) result
    beyond_fonts rows mode_is counts_are begun readings_are no_waivers ends =
        known_fonts kept (λ t name. by_known (counts (known t)) (rules t) name) TakesBeyond
        (λ a b entry lost took. record {
          rules_stay = took.0;
          judges_stay = ap₂ (λ (k : K) (m : Mask). λ (name : List ℕ). by_known (counts k) m name) took.1 took.0;
          outcome = took.2;
        })
        (ap₂ (λ (c : List ℕ → ℕ) (m : Mask). λ (name : List ℕ). by_known c m name) counts_are rules_are
        ∙ ap (λ (mode : ModeValue). judges_of mode run.plan.rules) (sym mode_is)) begun
        (λ entries texts. in_mode (beyond rows) mode_is entries
        (subst (λ (rs : List Kept). AllZip IsReadingOf rs (flat_map (entry_readings run.plan.rules) entries)) (sym readings_are) texts) no_waivers) ends

  module _ (kept : T → List Kept) where
    abbrev TakesAnew : T → T → Entry → Option Lost → Type 0
    TakesAnew a b entry lost = (rules b ≡ rules a)
        × TakesKnown (record { printer = recipient_by Counting (form a) (form b); old = kept a; new = kept b }) (as_known (rules a)) (rules a) entry lost

    pub anew_fonts : (rows : List RowValue) → run.plan.mode ≡ anew rows → kept old ≡ [] → readings ≡ kept new → waivers ≡ []
        → EndsRun (recipient_by TakesAnew old new) run end → ChecksFonts takes run (printer (form old)) (printer (form new)) result
    anew_fonts rows mode_is begun readings_are no_waivers ends =
        known_fonts kept (λ t name. as_known (rules t)) TakesAnew
        (λ a b entry lost took. record {
          rules_stay = took.0;
          judges_stay = ap (λ (m : Mask). λ (name : List ℕ). as_known m) took.0;
          outcome = took.1;
        })
        (ap (λ (m : Mask). λ (name : List ℕ). as_known m) rules_are ∙ ap (λ (mode : ModeValue). judges_of mode run.plan.rules) (sym mode_is)) begun
        (λ entries texts. in_mode (anew rows) mode_is entries
        (subst (λ (rs : List Kept). AllZip IsReadingOf rs (flat_map (entry_readings run.plan.rules) entries)) (sym readings_are) texts) no_waivers) ends
