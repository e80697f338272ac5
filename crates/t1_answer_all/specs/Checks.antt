-- How a check of fonts ends, and what is found in them.
use Rattle.std.specs.Prelude.{◌≡◌, ◌⊎◌, ℕ, List, take, Option, None, Some, Result, Ok, Err}
use Rattle.std.specs.List.{AllZip}
use Rattle.t1_many.specs.Counting.{all_lines}
use Rattle.t1_many.specs.Ends.{AreEntries, Ends}
use Rattle.t1_many.specs.Handing.{Handed, HandsOn}
use Rattle.t1_many.specs.Outcomes.{Entry}
use Rattle.t1_many.specs.Readings.{IsReadingOf}
use Rattle.t1_many.specs.Recipients.{Recipient}
use Rattle.t1_many.specs.Told.{all_handed, founds_of}
use Rattle.t1_many.specs.declared.policy.Lost.{Lost}
use Rattle.t1_many.specs.declared.policy.Lost.TheVariants.{Memory}
use Rattle.t1_summary.specs.Tallies.{tally_of}
use Rattle.t1_answer_all.specs.Modes.{readings_of, waivers_of}
use Rattle.t1_answer_all.specs.Plans.{PlanValue, Run, judges_in}
use Rattle.t1_answer_all.specs.declared.findings.Findings.{Findings}

-- The fonts of a run were checked and taken.
abbrev pub EndsRun : Recipient Entry (Option Lost) → Run → Option Lost → Type 0
EndsRun recipient run lost = Ends recipient run.files run.plan.edition run.plan.names lost

-- What was found in fonts: so many fonts were found so, and so many lines of each rule were handed on. What was found in each, and its waivers, are
-- kept, as the mode needs it.
pub record IsFound (plan : PlanValue) (found : Findings) (entries : List Entry) : Type 0 where
  pub counted : found.tally ≡ tally_of (founds_of (judges_in plan) entries) (all_lines (all_handed (judges_in plan) entries))
  pub readings_are : AllZip IsReadingOf found.readings.items (readings_of plan.mode plan.rules entries)
  pub waivers_are : found.kept ≡ waivers_of plan.mode plan.rules entries

-- All fonts were checked: what is chosen of them was handed on in order, and this was found in them. Or it stopped at one of them, since a device
-- failed or memory ran out, and nothing of a later one was handed on.
pub data ChecksFonts {F : Type 0} (takes : F → F → Handed → Option Lost → Type 0) (run : Run) (old new : F) (result : Result Findings Lost)
    : Type 0 where
  whole :
      (entries : List Entry) → (found : Findings) → AreEntries run.files run.plan.edition run.plan.names entries
      → HandsOn takes old new (all_handed (judges_in run.plan) entries) None → IsFound run.plan found entries → result ≡ Ok found
      → ChecksFonts takes run old new result
  cut_short :
      (count : ℕ) → (entries : List Entry) → AreEntries run.files run.plan.edition (take count run.plan.names) entries → (lost : Lost)
      → (stop : Option Lost) → HandsOn takes old new (all_handed (judges_in run.plan) entries) stop → (stop ≡ Some lost) ⊎ (lost ≡ Memory)
      → result ≡ Err lost → ChecksFonts takes run old new result
