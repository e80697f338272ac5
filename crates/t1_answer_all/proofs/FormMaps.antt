-- Checks of fonts by a printer that is seen by what is known of it, of which something stays as it is.
use Rattle.std.proofs.Common.{Option, Result}
use Rattle.t1_answer_all.specs.Checks.{ChecksFonts}
use Rattle.t1_answer_all.specs.Checks.ChecksFonts.{cut_short, whole}
use Rattle.t1_answer_all.specs.Plans.{Run}
use Rattle.t1_answer_all.specs.declared.findings.Findings.{Findings}
use Rattle.t1_many.specs.Handing.{Handed}
use Rattle.t1_many.specs.declared.policy.Lost.{Lost}
use Rattle.t1_printers.proofs.HandedSeen.{handed_seen, takes_on}

module _ {F X B : Type 0} (takes : X → B → B → Handed → Option Lost → Type 0) (kept : F → X) (view : X → F → B) where
  pub fonts_seen : (run : Run) (old new : F) (result : Result Findings Lost) → ChecksFonts (takes_on takes kept view) run old new result
      → ChecksFonts (takes (kept old)) run (view (kept old) old) (view (kept old) new) result
  fonts_seen run old new result (whole entries found are handed is same) =
      whole entries found are (handed_seen takes kept view old new _ _ handed) is same
  fonts_seen run old new result (cut_short count entries are lost stop handed why is) =
      cut_short count entries are lost stop (handed_seen takes kept view old new _ stop handed) why is
