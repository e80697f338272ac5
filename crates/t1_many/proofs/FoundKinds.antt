-- Kinds that are counted fault by fault.
use Rattle.std.proofs.Common.{◌≡◌, ◌≤◌, ℕ, ◌+◌, Bool, true, false, List, [], ◌∷◌, ◌++◌, cond, map, inl, inr, refl, sym, ap, ap₂, subst, ◌∙◌, arith, append-nil}
use Rattle.std.proofs.lemmas.Bool.{cases_Bool}
use Rattle.std.proofs.lemmas.List.{map-append}
use Rattle.std.proofs.lemmas.List.Elements.{filter-append}
use Rattle.std.specs.List.{AllByRecursion}
use Rattle.std.specs.Str.{bytes_eq}
use Rattle.indexmap.specs.IndexMap.{insert_entry}
use Rattle.t1_many.proofs.FaultKinds.{unit_in}
use Rattle.t1_report.proofs.GivenFaults.{IsGiven, none_given, one_given}
use Rattle.t1_many.proofs.KindCounts.{count_inserted, count_is_found, texts_inserted, units_inserted}
use Rattle.t1_many.proofs.TextCounts.{counts-push}
use Rattle.t1_many.specs.Counts.{count_in, counted_more}
use Rattle.t1_many.specs.Kinds.{KindValue, counted_in, same_kind}
use Rattle.t1_many.specs.Known.{kind_in}
use Rattle.t1_many.specs.KnownFaults.{counts_of}
use Rattle.t1_many.specs.Outcomes.{IsRead}
use Rattle.t1_many.specs.Private.Counts.{AreCounts}
use Rattle.t1_many.specs.Verdicts.{told_faults}
use Rattle.t1_report.specs.Checked.{CheckedFont}
use Rattle.t1_report.specs.Faults.{FaultValue}
use Rattle.t1_report.specs.Lines.{IsInFont}
use Rattle.t1_report.specs.Waivers.{Waiver}
use Rattle.t1_report.specs.Walks.{IsNext, first_mark, mark_of}
use Rattle.t1_report.specs.declared.marks.Mark.{Mark}
use Rattle.t1_rules.specs.Book.{number_of}
use Rattle.t1_rules.specs.Mask.{has}
use Rattle.t1_rules.specs.declared.mask.Mask.{Mask}

all_push : {X : Type 0} (P : X → Type 0) (xs : List X) (x : X) → AllByRecursion P xs → P x → AllByRecursion P (xs ++ x ∷ [])
all_push P [] x each is = (is, tt)
all_push P (y ∷ ys) x (first, rest) is = (first, all_push P ys x rest is)

told-push : (rules : Mask) (faults : List FaultValue) (fault : FaultValue) (b : Bool) → has rules (number_of fault.rule) ≡ b
    → told_faults rules (faults ++ fault ∷ []) ≡ told_faults rules faults ++ cond b (fault ∷ []) []
told-push rules faults fault b is =
    filter-append (λ (f : FaultValue). has rules (number_of f.rule)) faults (fault ∷ []) ∙ ap (λ c. told_faults rules faults ++ cond c (fault ∷ []) []) is

-- So many faults were returned, and the kinds of those that are reported are counted.
pub record HaveCounted (rules : Mask) (font : CheckedFont) (waivers : List Waiver) (count : ℕ) (mark : Mark) (counts : List (KindValue × ℕ))
    : Type 0 where
  pub given : List FaultValue
  pub is : IsGiven font waivers given count mark
  pub there : AllByRecursion (IsInFont font.value waivers) given
  pub few : (kind : KindValue) → count_in counts kind ≤ count
  pub counted : AreCounts (map (kind_in font.value waivers) (told_faults rules given)) counts

pub none_counted : (rules : Mask) (font : CheckedFont) (waivers : List Waiver) (mark : Mark) (counts : List (KindValue × ℕ))
    → mark ≡ first_mark → counts ≡ [] → HaveCounted rules font waivers 0 mark counts
none_counted rules font waivers mark counts first none =
    subst (HaveCounted rules font waivers 0 mark) (sym none)
    (record {
      given = [];
      is = none_given font waivers mark first;
      there = tt;
      few = λ kind. omega arith;
      counted = record { units = tt; texts = refl };
    })

module _ (rules : Mask) (font : CheckedFont) (waivers : List Waiver) (count : ℕ) (mark : Mark) (counts : List (KindValue × ℕ))
    (have : HaveCounted rules font waivers count mark counts) (fault : FaultValue) (next : IsNext font waivers mark fault)
    (in_font : IsInFont font.value waivers fault) where
  abbrev kind : KindValue
  kind = counted_in font.value waivers fault

  abbrev texts : List FaultValue → List (List ℕ)
  texts faults = map (kind_in font.value waivers) (told_faults rules faults)

  still_few : (q : KindValue) → count_in (counted_more counts kind) q ≤ count + 1
  still_few q =
      let now = count_inserted counts kind (count_in counts kind + 1) q in
      let before = have.few q in
      let of_kind = have.few kind in
      elim (cases_Bool (same_kind q kind)) [
        | inl same ↦
            let is : count_in (counted_more counts kind) q ≡ count_in counts kind + 1 =
            now ∙ ap (λ b. cond b (count_in counts kind + 1) (count_in counts q)) same in
            omega (arith, is, of_kind)
        | inr other ↦
            let is : count_in (counted_more counts kind) q ≡ count_in counts q =
            now ∙ ap (λ b. cond b (count_in counts kind + 1) (count_in counts q)) other in
            omega (arith, is, before)
      ]

  -- a fault that is reported
  pub one_counted : IsRead font.value waivers → has rules (number_of fault.rule) ≡ true
      → HaveCounted rules font waivers (count + 1) (mark_of fault) (counted_more counts kind)
  one_counted read is =
      let unit = unit_in font.value waivers read fault in_font in
      let longer : texts (have.given ++ fault ∷ []) ≡ texts have.given ++ kind_in font.value waivers fault ∷ [] =
      ap (map (kind_in font.value waivers)) (told-push rules have.given fault true is)
      ∙ map-append (kind_in font.value waivers) (told_faults rules have.given) (fault ∷ []) in
      record {
        given = have.given ++ fault ∷ [];
        is = one_given font waivers have.given count mark fault have.is next;
        there = all_push (IsInFont font.value waivers) have.given fault have.there in_font;
        few = still_few;
        counted = record {
          units = units_inserted counts kind (count_in counts kind + 1) have.counted.units unit;
          texts = texts_inserted counts kind (count_in counts kind + 1) have.counted.units unit
              ∙ ap₂ (λ (cs : List (List ℕ × ℕ)) n. insert_entry bytes_eq cs (kind_in font.value waivers fault) (n + 1)) have.counted.texts
              (count_is_found (texts have.given) counts have.counted kind unit)
              ∙ counts-push (texts have.given) (kind_in font.value waivers fault) ∙ ap counts_of (sym longer);
        };
      }

  -- one that isn't
  pub one_left : has rules (number_of fault.rule) ≡ false → HaveCounted rules font waivers (count + 1) (mark_of fault) counts
  one_left is = record {
    given = have.given ++ fault ∷ [];
    is = one_given font waivers have.given count mark fault have.is next;
    there = all_push (IsInFont font.value waivers) have.given fault have.there in_font;
    few = λ q. (let before = have.few q in omega (arith, before));
    counted = subst (λ (faults : List FaultValue). AreCounts (map (kind_in font.value waivers) faults) counts)
        (sym (told-push rules have.given fault false is ∙ append-nil (told_faults rules have.given))) have.counted;
  }
