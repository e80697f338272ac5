-- A report that is handed on, with how its font was found after it.
use Rattle.std.proofs.Common.{◌≡◌, ℕ, List, [], ◌∷◌, ◌++◌, Option, Some, Ok, Err, sym, subst}
use Rattle.t1_many.proofs.Handed.{handed-append, handed-one, handed-stopped}
use Rattle.t1_many.specs.Handing.{Handed, HandsOn, HandsReport, done, found_by, lines_by}
use Rattle.t1_many.specs.Private.Handing.{HandsLines}
use Rattle.t1_many.specs.Recipients.{recipient_by}
use Rattle.t1_summary.specs.declared.found.FontClass.{FontClass}
use Rattle.t1_many.specs.declared.policy.Lost.{Lost}
use Rattle.t1_many.specs.declared.verdict.Verdict.{Verdict}
use Rattle.t1_report.specs.Checked.{CheckedFont}
use Rattle.t1_report.specs.Faults.{FaultValue}
use Rattle.t1_report.specs.Waivers.{Waiver}

module _ {F : Type 0} (takes : F → F → Handed → Option Lost → Type 0) (name : List ℕ) where
  module _ (judges : FaultValue → Verdict) (font : CheckedFont) (waivers : List Waiver) (a b : F) where
    -- it stopped in a line
    pub stopped_early : (lost : Lost) → HandsLines (recipient_by takes a b) judges name font waivers (Err lost) → (end : Option Lost) → end ≡ Some lost
        → HandsReport (recipient_by takes a b) judges name font waivers end
    stopped_early lost (faults, is, handed, none) end end_is = (
      faults,
      is,
      subst (HandsOn takes a b (lines_by judges name font waivers faults ++ done name (found_by judges faults) ∷ [])) (sym end_is)
          (handed-stopped takes a b (lines_by judges name font waivers faults) _ lost handed),
    )

    -- or after all of them, or not at all
    pub all_handed : (c : F) (found : FontClass) (end : Option Lost) → HandsLines (recipient_by takes a b) judges name font waivers (Ok found)
        → takes b c (done name found) end → HandsReport (recipient_by takes a c) judges name font waivers end
    all_handed c found end (faults, is, handed, same) took = (
      faults,
      is,
      handed-append takes a b c (lines_by judges name font waivers faults) _ end handed
          (subst (λ (f : FontClass). HandsOn takes b c (done name f ∷ []) end) same (handed-one takes b c (done name found) end took)),
    )
