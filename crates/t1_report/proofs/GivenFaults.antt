-- The faults that a walk returned from the first mark on.
use Rattle.std.proofs.Common.{◌≡◌, ◌≤◌, ◌^◌, ◌-◌, ℕ, ◌+◌, List, [], ◌∷◌, ◌++◌, length, take, drop, refl, sym, ap, subst, ◌∙◌, arith, length-append, take-append-drop}
use Rattle.std.proofs.lemmas.List.{take_all}
use Rattle.t1_report.proofs.FewFaults.{few_faults}
use Rattle.t1_report.specs.Checked.{CheckedFont}
use Rattle.t1_report.specs.Faults.{FaultValue}
use Rattle.t1_report.specs.Laws.Walks.{AreTheReport, GivenAreTheFront, LeadTo, NoneIsGivenAtFirst}
use Rattle.t1_report.specs.Reports.{IsReport}
use Rattle.t1_report.specs.Waivers.{Waiver}
use Rattle.t1_report.specs.Walks.{AreLater, HasNoneLater, IsNext, first_mark, mark_of}
use Rattle.t1_report.specs.declared.marks.Mark.{Mark}

module _ (font : CheckedFont) (waivers : List Waiver) where
  lead_push : (mark : Mark) (given : List FaultValue) (last : Mark) (fault : FaultValue) → LeadTo font waivers mark given last
      → IsNext font waivers last fault → LeadTo font waivers mark (given ++ fault ∷ []) (mark_of fault)
  lead_push mark [] last fault is next = (subst (λ (m : Mark). IsNext font waivers m fault) (sym is) next, refl)
  lead_push mark (first ∷ given) last fault (is, rest) next = (is, lead_push (mark_of first) given last fault rest next)

  none_later : (mark : Mark) (given : List FaultValue) (last : Mark) → LeadTo font waivers mark given last
      → HasNoneLater font waivers last → AreLater font waivers mark given
  none_later mark [] last is none = subst (λ (m : Mark). HasNoneLater font waivers m) (sym is) none
  none_later mark (first ∷ given) last (is, rest) none = (is, none_later (mark_of first) given last rest none)

-- So many faults, which lead from the first mark to this one.
pub record IsGiven (font : CheckedFont) (waivers : List Waiver) (given : List FaultValue) (count : ℕ) (mark : Mark) : Type 0 where
  pub lead : LeadTo font waivers first_mark given mark
  pub so_many : length given ≡ count

module _ (font : CheckedFont) (waivers : List Waiver) where
  pub none_given : (mark : Mark) → mark ≡ first_mark → IsGiven font waivers [] 0 mark
  none_given mark first = record { lead = sym first; so_many = refl }

  -- one more
  pub one_given : (given : List FaultValue) (count : ℕ) (mark : Mark) (fault : FaultValue) → IsGiven font waivers given count mark
      → IsNext font waivers mark fault → IsGiven font waivers (given ++ fault ∷ []) (count + 1) (mark_of fault)
  one_given given count mark fault is next = record {
    lead = lead_push font waivers first_mark given mark fault is.lead next;
    so_many = length-append given (fault ∷ []) ∙ ap (λ n. n + 1) is.so_many;
  }

  module _ (few : length font.value.glyphs ≤ 65535) (few_waivers : length waivers ≤ 1048576) where
    -- where none is next they are the report
    pub all_given : AreTheReport → (given : List FaultValue) (count : ℕ) (mark : Mark) → IsGiven font waivers given count mark
        → HasNoneLater font waivers mark → IsReport font waivers given
    all_given are given count mark is none = (are font waivers given few few_waivers).0 (none_later font waivers first_mark given mark is.lead none)

    module _ (starts : NoneIsGivenAtFirst) (fronts : GivenAreTheFront) (faults : List FaultValue) (report : IsReport font waivers faults)
        (given : List FaultValue) (count : ℕ) (mark : Mark) (is : IsGiven font waivers given count mark) where
      front : given ≡ take (length given) faults
      front = (fronts font waivers faults 0 first_mark given mark few few_waivers report (starts faults) is.lead).0

      -- the report begins with them
      pub begin_with : faults ≡ given ++ drop (length given) faults
      begin_with = sym (take-append-drop (length given) faults) ∙ ap (λ l. l ++ drop (length given) faults) (sym front)

      -- no report has more faults than a number of 64 bits counts
      pub most_given : 2 ^ 64 - 1 ≤ count → given ≡ faults
      most_given most =
          let fewer = few_faults font waivers faults few few_waivers report in
          front ∙ take_all (length given) faults (omega (arith, fewer, most, is.so_many))
