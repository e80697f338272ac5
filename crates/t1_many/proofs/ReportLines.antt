-- The lines of a report, one fault after another.
use Rattle.std.proofs.Common.{◌≡◌, ◌≤◌, ◌^◌, ◌-◌, ℕ, ◌+◌, Bool, true, false, List, [], ◌∷◌, ◌++◌, Option, None, Some, Result, Ok, Err, length, drop, map, cond, refl, sym, ap, subst, ◌∙◌, append-nil}
use Rattle.std.proofs.lemmas.List.{map-append}
use Rattle.std.proofs.lemmas.List.Elements.{filter-append}
use Rattle.std.specs.List.{filter}
use Rattle.std.specs.Result.{IfOk, IsErrAnd}
use Rattle.t1_report.proofs.GivenFaults.{IsGiven, begin_with, most_given, none_given, one_given}
use Rattle.t1_many.proofs.Handed.{handed-append, handed-one, handed-stopped}
use Rattle.t1_many.specs.Handing.{Handed, HandsOn, found_by, found_with, is_told, line, lines_by, lost_of}
use Rattle.t1_summary.specs.declared.found.FontClass.{FontClass}
use Rattle.t1_summary.specs.declared.found.FontClass.TheVariants as founds
use Rattle.t1_many.specs.declared.policy.Lost.{Lost}
use Rattle.t1_many.specs.declared.verdict.Verdict.{Verdict}
use Rattle.t1_many.specs.declared.verdict.Verdict.TheVariants.{Known, Skipped, Reported}
use Rattle.t1_report.specs.Checked.{CheckedFont}
use Rattle.t1_report.specs.Faults.{FaultValue}
use Rattle.t1_report.specs.Laws.Walks.{GivenAreTheFront, NoneIsGivenAtFirst}
use Rattle.t1_report.specs.Reports.{IsReport}
use Rattle.t1_report.specs.Waivers.{Waiver}
use Rattle.t1_report.specs.Walks.{IsNext, first_mark, mark_of}
use Rattle.t1_report.specs.declared.marks.Mark.{Mark}

-- which of two faults is seen first doesn't matter
either_first : (a b : Verdict) (found : FontClass) → found_with a (found_with b found) ≡ found_with b (found_with a found)
either_first Reported Reported found = refl
either_first Reported Known found = refl
either_first Reported Skipped found = refl
either_first Known Reported found = refl
either_first Known Known found = refl
either_first Known Skipped found = refl
either_first Skipped Reported found = refl
either_first Skipped Known found = refl
either_first Skipped Skipped found = refl

-- a result that is an error says nothing of what is fine
pub no_ok : {T E : Type 0} (r : Result T E) (P : E → Type 0) (Q : T → Type 0) → IsErrAnd r P → IfOk r Q
no_ok (Ok x) P Q is = absurd is
no_ok (Err e) P Q is = tt

-- nor what it stopped for
pub lost_same : {T : Type 0} (r : Result T Lost) (lost : Lost) → IsErrAnd r (λ l. l ≡ lost) → lost_of r ≡ Some lost
lost_same (Ok x) lost is = absurd is
lost_same (Err l) lost is = ap Some is

module _ (judges : FaultValue → Verdict) where
  pub found-push : (faults : List FaultValue) (fault : FaultValue)
      → found_by judges (faults ++ fault ∷ []) ≡ found_with (judges fault) (found_by judges faults)
  found-push [] fault = refl
  found-push (first ∷ faults) fault =
      ap (found_with (judges first)) (found-push faults fault) ∙ either_first (judges first) (judges fault) (found_by judges faults)

  module _ (name : List ℕ) (font : CheckedFont) (waivers : List Waiver) where
    abbrev lines : List FaultValue → List Handed
    lines faults = lines_by judges name font waivers faults

    lines-append : (xs ys : List FaultValue) → lines (xs ++ ys) ≡ lines xs ++ lines ys
    lines-append xs ys =
        ap (map (line name font waivers)) (filter-append (λ (fault : FaultValue). is_told (judges fault)) xs ys)
        ∙ map-append (line name font waivers) (filter (λ (fault : FaultValue). is_told (judges fault)) xs)
        (filter (λ (fault : FaultValue). is_told (judges fault)) ys)

    -- one more that is reported, and one that isn't
    lines-push : (xs : List FaultValue) (fault : FaultValue) (told : Bool) → is_told (judges fault) ≡ told
        → lines (xs ++ fault ∷ []) ≡ lines xs ++ cond told (line name font waivers fault ∷ []) []
    lines-push xs fault true is =
        lines-append xs (fault ∷ [])
        ∙ ap (λ t. lines xs ++ map (line name font waivers) (cond t (fault ∷ []) [])) is
    lines-push xs fault false is =
        lines-append xs (fault ∷ [])
        ∙ ap (λ t. lines xs ++ map (line name font waivers) (cond t (fault ∷ []) [])) is

    -- So many faults were returned, and of those that are reported the lines were handed on.
    pub record HaveGone {F : Type 0} (takes : F → F → Handed → Option Lost → Type 0) (count : ℕ) (mark : Mark) (old new : F) (found : FontClass)
        : Type 0 where
      pub given : List FaultValue
      pub is : IsGiven font waivers given count mark
      pub handed : HandsOn takes old new (lines given) None
      pub found_is : found ≡ found_by judges given

    module _ {F : Type 0} (takes : F → F → Handed → Option Lost → Type 0) where
      pub none_gone : (mark : Mark) (form : F) → mark ≡ first_mark → HaveGone takes 0 mark form form founds.Clean
      none_gone mark form first =
          record { given = []; is = none_given font waivers mark first; handed = (refl, refl); found_is = refl }

      module _ (count : ℕ) (mark : Mark) (a b : F) (found : FontClass) (gone : HaveGone takes count mark a b found) (fault : FaultValue)
          (next : IsNext font waivers mark fault) where
        found_more : found_with (judges fault) found ≡ found_by judges (gone.given ++ fault ∷ [])
        found_more = ap (found_with (judges fault)) gone.found_is ∙ sym (found-push gone.given fault)

        -- a fault that is reported
        pub one_gone : (c : F) → is_told (judges fault) ≡ true → takes b c (line name font waivers fault) None
            → HaveGone takes (count + 1) (mark_of fault) a c (found_with (judges fault) found)
        one_gone c is took = record {
          given = gone.given ++ fault ∷ [];
          is = one_given font waivers gone.given count mark fault gone.is next;
          handed = subst (λ hs. HandsOn takes a c hs None) (sym (lines-push gone.given fault true is))
              (handed-append takes a b c (lines gone.given) _ None gone.handed (handed-one takes b c _ None took));
          found_is = found_more;
        }

        -- one that isn't
        pub one_passed : is_told (judges fault) ≡ false → HaveGone takes (count + 1) (mark_of fault) a b (found_with (judges fault) found)
        one_passed is = record {
          given = gone.given ++ fault ∷ [];
          is = one_given font waivers gone.given count mark fault gone.is next;
          handed = subst (λ hs. HandsOn takes a b hs None) (sym (lines-push gone.given fault false is ∙ append-nil (lines gone.given)))
              gone.handed;
          found_is = found_more;
        }

      module _ (count : ℕ) (mark : Mark) (a b : F) (found : FontClass) (gone : HaveGone takes count mark a b found)
          (starts : NoneIsGivenAtFirst) (fronts : GivenAreTheFront) (few : length font.value.glyphs ≤ 65535)
          (few_waivers : length waivers ≤ 1048576) (faults : List FaultValue) (report : IsReport font waivers faults) where
        -- it stopped in the line of a fault
        pub one_failed : (fault : FaultValue) (c : F) (reason : Lost) → is_told (judges fault) ≡ true → IsNext font waivers mark fault
            → takes b c (line name font waivers fault) (Some reason) → HandsOn takes a c (lines faults) (Some reason)
        one_failed fault c reason is next broke =
            let given = gone.given ++ fault ∷ [] in
            let whole = begin_with font waivers few few_waivers starts fronts faults report given (count + 1) (mark_of fault)
            (one_given font waivers gone.given count mark fault gone.is next) in
            subst (λ hs. HandsOn takes a c hs (Some reason))
            (sym (ap lines whole ∙ lines-append given (drop (length given) faults)))
            (handed-stopped takes a c (lines given) _ reason
            (subst (λ hs. HandsOn takes a c hs (Some reason)) (sym (lines-push gone.given fault true is))
            (handed-append takes a b c (lines gone.given) _ (Some reason) gone.handed (handed-one takes b c _ (Some reason) broke))))

        -- more turns than numbers of 64 bits can't be short of all
        pub most_gone : 2 ^ 64 - 1 ≤ count → HandsOn takes a b (lines faults) None × (found ≡ found_by judges faults)
        most_gone most =
            let same = most_given font waivers few few_waivers starts fronts faults report gone.given count mark gone.is most in (
              subst (λ (fs : List FaultValue). HandsOn takes a b (lines fs) None) same gone.handed,
              gone.found_is ∙ ap (found_by judges) same,
            )
