-- Fonts that a policy takes, font by font.
use Rattle.std.proofs.Common.{◌≡◌, ◌⊎◌, List, [], ◌∷◌, ◌++◌, Option, None, Some, Result, Ok, Err, refl, sym, ap, subst, ◌∙◌, append-nil, append_assoc}
use Rattle.std.proofs.lemmas.Grind.{flat_map-append}
use Rattle.std.proofs.lemmas.Option.{none-some}
use Rattle.std.specs.List.{AllZip, flat_map}
use Rattle.std.specs.Result.{IfOk}
use Rattle.t1_answer_all.proofs.CountedFonts.{Takes, counted, fonts_are, handed_on}
use Rattle.t1_answer_all.specs.Checks.{ChecksFonts, EndsRun}
use Rattle.t1_answer_all.specs.Checks.ChecksFonts.{cut_short, whole}
use Rattle.t1_answer_all.specs.Modes.{readings_of, waivers_of}
use Rattle.t1_answer_all.specs.Plans.{Run, judges_in}
use Rattle.t1_answer_all.specs.declared.findings.Findings.{Findings}
use Rattle.t1_lines.proofs.Cuts.{some_same}
use Rattle.t1_many.proofs.Handed.{handed-append}
use Rattle.t1_many.specs.Counting.{all_lines}
use Rattle.t1_many.specs.Ends.{AreTaken}
use Rattle.t1_many.specs.Ends.Ends.{all, stopped}
use Rattle.t1_many.specs.Handing.{Handed, HandsOn, handed_of, lost_of}
use Rattle.t1_many.specs.Outcomes.{Entry}
use Rattle.t1_many.specs.Readings.{IsReadingOf}
use Rattle.t1_many.specs.Recipients.{recipient_by}
use Rattle.t1_many.specs.Told.{all_handed}
use Rattle.t1_many.specs.declared.policy.Lost.{Lost}
use Rattle.t1_many.specs.declared.policy.Lost.TheVariants.{Memory}
use Rattle.t1_many.specs.declared.readings.Reading.{Reading as Kept}
use Rattle.t1_summary.specs.Tallies.{tally_of}
use Rattle.t1_summary.specs.declared.found.FontClass.{FontClass}
use Rattle.t1_summary.specs.declared.tally.Tally.{Tally}
use Rattle.t1_waiving.specs.FontTexts.{FontText}

-- What was found in fonts that were checked, unless that stopped.
pub record AreFindings (tally : Tally) (readings : List Kept) (waivers : List FontText) (result : Result Findings Lost) : Type 0 where
  pub tally_is : IfOk result (λ found. found.tally ≡ tally)
  pub readings_are : IfOk result (λ found. found.readings.items ≡ readings)
  pub waivers_are : IfOk result (λ found. found.kept ≡ waivers)

-- what is made of one more
pub flat_map-push : {A B : Type 0} (f : A → List B) (xs : List A) (x : A) → flat_map f (xs ++ x ∷ []) ≡ flat_map f xs ++ f x
flat_map-push f xs x = flat_map-append f xs (x ∷ []) ∙ ap (λ ys. flat_map f xs ++ ys) (append-nil (f x))

module _ {T C F : Type 0} (takes : F → F → Handed → Option Lost → Type 0) (printer : C → F) (tally : C → Tally) (form : T → C) (run : Run)
    (takes_font : T → T → Entry → Option Lost → Type 0) (Holds : T → List Entry → Type 0) where
  abbrev handed_in : Entry → List Handed
  handed_in entry = handed_of (judges_in run.plan entry.name) entry.name entry.outcome

  abbrev pub HandsAll : T → T → List Handed → Option Lost → Type 0
  HandsAll old new handed lost = HandsOn (Takes takes printer tally) (form old) (form new) handed lost

  -- All of a font is handed on, and what holds after the fonts before it holds after it too; or it stops at the font, or after it.
  pub record IsTaken : Type 0 where
    pub taken : (old new : T) (done : List Entry) (entry : Entry) → Holds old done → takes_font old new entry None
        → HandsAll old new (handed_in entry) None × Holds new (done ++ entry ∷ [])
    pub stopped_at : (old new : T) (done : List Entry) (entry : Entry) (lost : Lost) → Holds old done → takes_font old new entry (Some lost)
        → (stop : Option Lost) × HandsAll old new (handed_in entry) stop × ((stop ≡ Some lost) ⊎ (lost ≡ Memory))

  module _ (is_taken : IsTaken) where
    have_taken : (old new : T) (done entries : List Entry) → Holds old done → AreTaken takes_font old new entries
        → HandsAll old new (all_handed (judges_in run.plan) entries) None × Holds new (done ++ entries)
    have_taken old new done [] holds same = (
      (ap form same, refl),
      subst (λ (t : T). Holds t (done ++ [])) (sym same) (subst (λ (es : List Entry). Holds old es) (sym (append-nil done)) holds),
    )
    have_taken old new done (entry ∷ entries) holds (next, took, rest) =
        let one = is_taken.taken old next done entry holds took in
        let more = have_taken next new (done ++ entry ∷ []) entries one.1 rest in (
          handed-append (Takes takes printer tally) (form old) (form next) (form new) (handed_in entry) _ None one.0 more.0,
          subst (λ (es : List Entry). Holds new es) (append_assoc done (entry ∷ []) entries) more.1,
        )

    pub checks_fonts : (old new : T) (end : Option Lost) (result : Result Findings Lost) (readings : List Kept) (waivers : List FontText)
        → lost_of result ≡ end → tally (form old) ≡ tally_of [] [] → AreFindings (tally (form new)) readings waivers result → Holds old []
        → ((entries : List Entry) → Holds new entries → AllZip IsReadingOf readings (readings_of run.plan.mode run.plan.rules entries)
        × (waivers ≡ waivers_of run.plan.mode run.plan.rules entries))
        → EndsRun (recipient_by takes_font old new) run end → ChecksFonts takes run (printer (form old)) (printer (form new)) result
    checks_fonts old new end (Ok found) readings waivers end_is none findings holds keeps (all entries are taken is) =
        let so = have_taken old new [] entries holds taken in
        let kept = keeps entries so.1 in
        let handed_are = all_handed (judges_in run.plan) entries in
        whole entries found are (handed_on takes printer tally (form old) (form new) handed_are None so.0)
        (record {
          counted = findings.tally_is ∙ counted takes printer tally (form old) (form new) handed_are [] [] so.0 none
              ∙ ap (λ (fs : List FontClass). tally_of fs (all_lines handed_are)) (fonts_are (judges_in run.plan) entries);
          readings_are = subst (λ (rs : List Kept). AllZip IsReadingOf rs (readings_of run.plan.mode run.plan.rules entries))
              (sym findings.readings_are) kept.0;
          waivers_are = findings.waivers_are ∙ kept.1;
        }) refl
    checks_fonts old new end (Ok found) readings waivers end_is none findings holds keeps (stopped count entries last are next taken lost took is) =
        absurd (none-some lost (end_is ∙ is))
    checks_fonts old new end (Err lost) readings waivers end_is none findings holds keeps (all entries are taken is) =
        absurd (none-some lost (sym (end_is ∙ is)))
    checks_fonts old new end (Err early) readings waivers end_is none findings holds keeps (stopped count entries last are next taken lost took is) =
        let so = have_taken old next [] entries holds taken in
        let at = is_taken.stopped_at next new entries last lost so.1 took in
        cut_short count (entries ++ last ∷ []) are lost at.0
        (handed_on takes printer tally (form old) (form new) (all_handed (judges_in run.plan) (entries ++ last ∷ [])) at.0
        (subst (λ (hs : List Handed). HandsAll old new hs at.0) (sym (flat_map-push handed_in entries last))
        (handed-append (Takes takes printer tally) (form old) (form next) (form new) (all_handed (judges_in run.plan) entries) _ at.0 so.0 at.1)))
        at.2 (ap Err (some_same early lost (end_is ∙ is)))
