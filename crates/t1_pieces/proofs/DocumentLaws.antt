-- Calls one after another hand over the document.
-- Each call hands over the results from one place of the document to the next, and the places follow one another.
use Rattle.std.proofs.Common.{◌≡◌, ◌∙◌, ◌<◌, ◌≤◌, ◌+◌, ℕ, suc, List, [], ◌∷◌, ◌++◌, length, map, slice_get, take, drop, Some, ap, arith, append_assoc, append-nil, length-append, length-take, refl, subst, sym}
use Rattle.std.proofs.Math.Seq.{drop-cons}
use Rattle.std.proofs.lemmas.List.{take-append-drop, take_all}
use Rattle.std.proofs.lemmas.Option.{get_or_from_slice_get, slice_get_within}
use Rattle.std.specs.List.{AllByRecursion, flat_map}
use Rattle.t1_forms.specs.PageValues.{PagesValue}
use Rattle.t1_forms.specs.Sarif.{SarifState, begun, closing}
use Rattle.t1_forms.specs.SarifDocuments.{after_one, tellings_text}
use Rattle.t1_report.specs.Faults.{FaultValue}
use Rattle.t1_report.specs.Laws.Walks.{AllAreGivenAtLast, GivenAreTheFront, LeadTo, MarksGoOnCounting, NoneIsGivenAtFirst}
use Rattle.t1_report.specs.Walks.{first_mark}
use Rattle.t1_report.specs.declared.marks.Mark.{Mark}
use Rattle.t1_pieces.proofs.PieceLaws.{led_more}
use Rattle.t1_pieces.specs.DocumentLaws.{AreCallsFor, DocumentCallsEnd, JoinedAreTheDocument, PartsFit, parts_from, parts_of}
use Rattle.t1_pieces.specs.Documents.{IsDocumentPieceOf, IsNextPart, IsNextResult, StandsAt, StandsFor, Subject, front, result_of, results_of, state_after, told_of}
use Rattle.t1_pieces.specs.Documents.IsNextResult.{ending, result}
use Rattle.t1_pieces.specs.Laws.{AreCalls, Call, handed_by}
use Rattle.t1_pieces.specs.declared.stage.Reached.{Reached}
use Rattle.t1_pieces.specs.declared.stage.Stage.{Stage}
use Rattle.t1_pieces.specs.declared.stage.Stage.TheVariants.{Beginning, Nothing, Results}

-- ---- results one after another

state_more : (subject : Subject) (state : SarifState) (given more : List FaultValue)
    → state_after subject state (given ++ more) ≡ state_after subject (state_after subject state given) more
state_more subject state [] more = refl
state_more subject state (f ∷ given) more = state_more subject (after_one state (told_of subject f)) given more

results_more : (subject : Subject) (state : SarifState) (given more : List FaultValue)
    → results_of subject state (given ++ more) ≡ results_of subject state given ++ results_of subject (state_after subject state given) more
results_more subject state [] more = refl
results_more subject state (f ∷ given) more =
    ap (λ t. result_of subject state f ++ t) (results_more subject (after_one state (told_of subject f)) given more)
    ∙ sym (append_assoc (result_of subject state f) _ _)

-- Results and what is after them are what is written of the faults.
results_and_end : (subject : Subject) (state : SarifState) (faults : List FaultValue)
    → results_of subject state faults ++ closing (state_after subject state faults) ≡ tellings_text state (map (told_of subject) faults)
results_and_end subject state [] = refl
results_and_end subject state (f ∷ faults) =
    append_assoc (result_of subject state f) _ _
    ∙ ap (λ t. result_of subject state f ++ t) (results_and_end subject (after_one state (told_of subject f)) faults)

-- ---- calls

pub no_front : (pages : PagesValue) (stage : Stage) → ¬ (stage ≡ Nothing) → front pages stage ≡ []
no_front pages Nothing begun = absurd (begun refl)
no_front pages Beginning begun = refl
no_front pages Results begun = refl

-- What calls handed over since a place.
record AreHanded (subject : Subject) (reached : Reached) (state : SarifState) (mark : Mark) (calls : List (Call Reached)) (last : Reached) : Type 0 where
  pub given : List FaultValue
  pub end : Mark
  pub led : LeadTo subject.font subject.waivers mark given end
  pub stands : StandsFor subject last (state_after subject state given) end
  pub text : flat_map handed_by calls ++ front subject.pages last.stage ≡ front subject.pages reached.stage ++ results_of subject state given
  pub few : length calls ≤ length given + 1
  pub fewer : ¬ (reached.stage ≡ Nothing) → length calls ≤ length given

-- Bytes are no bytes of no result.
some_given : (subject : Subject) (state : SarifState) (before : List ℕ) (room : List ℕ) (n : ℕ) (given : List FaultValue) → 0 < n
    → n ≤ length room → before ≡ [] → take n room ≡ before ++ results_of subject state given → 1 ≤ length given
some_given subject state before room n [] some within nothing is =
    let none : length (take n room) ≡ 0 = ap length (is ∙ append-nil before ∙ nothing) in
    absurd (omega (arith, some, within, none, length-take n room))
some_given subject state before room n (f ∷ given) some within nothing is = omega arith

handed_over : (subject : Subject) (reached : Reached) (state : SarifState) (mark : Mark) (calls : List (Call Reached)) (last : Reached)
    → StandsFor subject reached state mark → AreCalls (IsDocumentPieceOf subject) reached calls last → AreHanded subject reached state mark calls last
handed_over subject reached state mark [] last stands is = record {
  given = [];
  end = mark;
  led = refl;
  stands = subst (λ (r : Reached). StandsFor subject r state mark) is stands;
  text = ap (λ (r : Reached). front subject.pages r.stage) (sym is) ∙ sym (append-nil (front subject.pages reached.stage));
  few = omega arith;
  fewer = λ begun. omega arith;
}
handed_over subject reached state mark (call ∷ calls) last stands (is, rest) =
    let here = is state mark stands in
    let results = here.results in
    let later = handed_over subject call.reached (state_after subject state results.given) results.last calls last results.stands rest in
    let count = length-append results.given later.given in
    let fewer = later.fewer here.begun in
    record {
      given = results.given ++ later.given;
      end = later.end;
      led = led_more subject.font subject.waivers mark results.last later.end results.given later.given results.led later.led;
      stands = subst (λ (s : SarifState). StandsFor subject last s later.end) (sym (state_more subject state results.given later.given)) later.stands;
      text = append_assoc (handed_by call) (flat_map handed_by calls) (front subject.pages last.stage)
          ∙ ap (λ t. handed_by call ++ t) (later.text ∙ ap (λ t. t ++ results_of subject (state_after subject state results.given) later.given)
          (no_front subject.pages call.reached.stage here.begun))
          ∙ ap (λ t. t ++ results_of subject (state_after subject state results.given) later.given) results.text
          ∙ append_assoc (front subject.pages reached.stage) _ _
          ∙ ap (λ t. front subject.pages reached.stage ++ t) (sym (results_more subject state results.given later.given));
      few = omega (arith, count, fewer);
      fewer = λ begun.
          let one = some_given subject state (front subject.pages reached.stage) call.room call.count results.given here.some results.within
          (no_front subject.pages reached.stage begun) results.text in
          omega (arith, count, fewer, one);
    }

first_stands : (subject : Subject) (stage : Stage) (at : Mark) (counts : List ℕ) → stage ≡ Nothing → at ≡ first_mark
    → StandsAt subject stage at counts (begun subject.pages) first_mark
first_stands subject Nothing at counts is at_is = (sym at_is, refl)
first_stands subject Beginning at counts is at_is = (sym at_is, refl)
first_stands subject Results at counts is at_is = cc

handed : (subject : Subject) (faults : List FaultValue) (calls : List (Call Reached)) (last : Reached) (are : AreCallsFor subject faults calls last)
    → AreHanded subject are.first (begun subject.pages) first_mark calls last
handed subject faults calls last are =
    handed_over subject are.first (begun subject.pages) first_mark calls last
    (first_stands subject are.first.stage are.first.mark are.first.counts are.is_first.0 are.is_first.1) are.are

pub joined : NoneIsGivenAtFirst → GivenAreTheFront → AllAreGivenAtLast → JoinedAreTheDocument
joined starts fronts ends subject faults calls last after room n are is =
    let before = handed subject faults calls last are in
    let end = is (state_after subject (begun subject.pages) before.given) before.end before.stands in
    let given = before.given ++ end.given in
    let led = led_more subject.font subject.waivers first_mark before.end end.last before.given end.given before.led end.led in
    let whole = fronts subject.font subject.waivers faults 0 first_mark given end.last are.few are.few_waivers are.report (starts faults) led in
    let all : 0 + length given ≡ length faults = ends subject.font subject.waivers faults (0 + length given) end.last are.report whole.1 end.none in
    let same : given ≡ faults = whole.0 ∙ take_all (length given) faults (omega (arith, all)) in
    let later = state_after subject (begun subject.pages) before.given in
    ap (λ t. flat_map handed_by calls ++ t) end.text
    ∙ sym (append_assoc (flat_map handed_by calls) (front subject.pages last.stage) _)
    ∙ ap (λ t. t ++ (results_of subject later end.given ++ closing (state_after subject later end.given))) before.text
    ∙ append_assoc (front subject.pages are.first.stage) (results_of subject (begun subject.pages) before.given) _
    ∙ ap (λ t. front subject.pages are.first.stage ++ t) (
    sym (append_assoc (results_of subject (begun subject.pages) before.given) (results_of subject later end.given) _)
    ∙ ap (λ t. t ++ closing (state_after subject later end.given)) (sym (results_more subject (begun subject.pages) before.given end.given))
    ∙ ap (λ (s : SarifState). results_of subject (begun subject.pages) given ++ closing s) (sym (state_more subject (begun subject.pages) before.given end.given))
    ∙ results_and_end subject (begun subject.pages) given
    ∙ ap (λ (fs : List FaultValue). tellings_text (begun subject.pages) (map (told_of subject) fs)) same)
    ∙ ap (λ (stage : Stage). front subject.pages stage ++ tellings_text (begun subject.pages) (map (told_of subject) faults)) are.is_first.0

-- ---- parts that fit

-- The result after so many, and what is after them all, are among the parts.
part_there : (P : List ℕ → Type 0) (subject : Subject) (state : SarifState) (given rest : List FaultValue) (fault : FaultValue)
    → AllByRecursion P (parts_from subject state (given ++ fault ∷ rest)) → P (result_of subject (state_after subject state given) fault)
part_there P subject state [] rest fault (first, others) = first
part_there P subject state (f ∷ given) rest fault (first, others) =
    part_there P subject (after_one state (told_of subject f)) given rest fault others

end_there : (P : List ℕ → Type 0) (subject : Subject) (state : SarifState) (faults : List FaultValue)
    → AllByRecursion P (parts_from subject state faults) → P (closing (state_after subject state faults))
end_there P subject state [] (first, others) = first
end_there P subject state (f ∷ faults) (first, others) = end_there P subject (after_one state (told_of subject f)) faults others

drop_next : (faults : List FaultValue) (k : ℕ) (fault : FaultValue) → slice_get faults k ≡ Some fault → drop k faults ≡ fault ∷ drop (k + 1) faults
drop_next faults k fault is =
    let next : suc k ≡ k + 1 = omega arith in
    drop-cons faults k fault (slice_get_within faults k fault is)
    ∙ ap (λ (f : FaultValue). f ∷ drop (suc k) faults) (get_or_from_slice_get faults k fault fault is)
    ∙ ap (λ (n : ℕ). fault ∷ drop n faults) next

split_at : (faults given : List FaultValue) (fault : FaultValue) → given ≡ take (length given) faults → slice_get faults (length given) ≡ Some fault
    → given ++ fault ∷ drop (length given + 1) faults ≡ faults
split_at faults given fault front is =
    ap (λ (fs : List FaultValue). fs ++ fault ∷ drop (length given + 1) faults) front
    ∙ ap (λ (fs : List FaultValue). take (length given) faults ++ fs) (sym (drop_next faults (length given) fault is))
    ∙ take-append-drop (length given) faults

module _ (starts : NoneIsGivenAtFirst) (fronts : GivenAreTheFront) (counts : MarksGoOnCounting) (ends : AllAreGivenAtLast) where
  next_short : (subject : Subject) (faults : List FaultValue) (calls : List (Call Reached)) (last : Reached) (given : List FaultValue) (end : Mark)
      (text room : List ℕ) → AreCallsFor subject faults calls last → LeadTo subject.font subject.waivers first_mark given end
      → AllByRecursion (λ part. length part ≤ length room) (parts_from subject (begun subject.pages) faults)
      → IsNextResult subject (state_after subject (begun subject.pages) given) end text → length text ≤ length room
  next_short subject faults calls last given end text room are led short (result fault next text_is) =
      let whole = fronts subject.font subject.waivers faults 0 first_mark given end are.few are.few_waivers are.report (starts faults) led in
      let there = (counts subject.font subject.waivers faults (0 + length given) end fault are.few are.few_waivers are.report whole.1 next).0 in
      let is = split_at faults given fault whole.0 (subst (λ (k : ℕ). slice_get faults k ≡ Some fault) (omega arith) there) in
      subst (λ t. length t ≤ length room) (sym text_is)
      (part_there (λ part. length part ≤ length room) subject (begun subject.pages) given (drop (length given + 1) faults) fault
      (subst (λ (fs : List FaultValue). AllByRecursion (λ part. length part ≤ length room) (parts_from subject (begun subject.pages) fs)) (sym is) short))
  next_short subject faults calls last given end text room are led short (ending none text_is) =
      let whole = fronts subject.font subject.waivers faults 0 first_mark given end are.few are.few_waivers are.report (starts faults) led in
      let all : 0 + length given ≡ length faults = ends subject.font subject.waivers faults (0 + length given) end are.report whole.1 none in
      let same : given ≡ faults = whole.0 ∙ take_all (length given) faults (omega (arith, all)) in
      subst (λ t. length t ≤ length room)
      (sym (text_is ∙ ap (λ (fs : List FaultValue). closing (state_after subject (begun subject.pages) fs)) same))
      (end_there (λ part. length part ≤ length room) subject (begun subject.pages) faults short)

  part_short : (subject : Subject) (faults : List FaultValue) (calls : List (Call Reached)) (last : Reached) (given : List FaultValue) (end : Mark)
      (stage : Stage) (text room : List ℕ) → AreCallsFor subject faults calls last
      → LeadTo subject.font subject.waivers first_mark given end
      → AllByRecursion (λ part. length part ≤ length room) (parts_of subject faults)
      → IsNextPart subject stage (state_after subject (begun subject.pages) given) end text → length text ≤ length room
  part_short subject faults calls last given end Nothing text room are led (first, short) is =
      subst (λ t. length t ≤ length room) (sym is) first
  part_short subject faults calls last given end Beginning text room are led (first, short) is =
      next_short subject faults calls last given end text room are led short is
  part_short subject faults calls last given end Results text room are led (first, short) is =
      next_short subject faults calls last given end text room are led short is

  pub fit : PartsFit
  fit subject faults calls last after room n are short is =
      let before = handed subject faults calls last are in
      let full = (is (state_after subject (begun subject.pages) before.given) before.end before.stands).1 in
      let holds = part_short subject faults calls last before.given before.end last.stage full.text room are before.led short full.is_next in
      let size = full.size_is in
      let long = full.too_long in
      absurd (omega (arith, holds, size, long))

pub calls_end : NoneIsGivenAtFirst → GivenAreTheFront → DocumentCallsEnd
calls_end starts fronts subject faults calls last are =
    let before = handed subject faults calls last are in
    let whole = fronts subject.font subject.waivers faults 0 first_mark before.given before.end are.few are.few_waivers are.report (starts faults)
    before.led in
    let within = whole.1.given in
    let count = before.few in
    omega (arith, within, count)
