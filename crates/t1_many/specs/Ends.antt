-- How a run over many fonts ends.
use Rattle.std.specs.Prelude.{◌≡◌, ℕ, List, [], ◌∷◌, ◌++◌, map, take, Option, None, Some, Result, Ok, Err}
use Rattle.t1_char.specs.declared.edition.Edition.{Edition}
use Rattle.t1_many.specs.Files.{ChecksIn, Files, files_by}
use Rattle.t1_many.specs.Handing.{lost_of}
use Rattle.t1_many.specs.Outcomes.{Entry, reported}
use Rattle.t1_many.specs.Recipients.{Recipient}
use Rattle.t1_many.specs.declared.policy.Lost.{Lost}
use Rattle.t1_report.specs.Checked.{CheckedFont}
use Rattle.t1_report.specs.Faults.{FaultValue}
use Rattle.t1_report.specs.Reports.{IsReport}
use Rattle.t1_report.specs.Waivers.{Waiver}

-- The report of a font with these waivers was taken; or memory ran out, and nothing was done.
abbrev pub TakesReport : {T E : Type 0} → Recipient Entry (Option Lost) → List ℕ → CheckedFont → List Waiver → Result (Result T Lost) E → Type 0
TakesReport recipient name font waivers (Ok taken) =
    (faults : List FaultValue) × IsReport font waivers faults
    × recipient.takes recipient.old recipient.new
    (record { name = name; outcome = reported (record { font = font.value; edition = font.edition; waivers = waivers; faults = faults }) })
    (lost_of taken)
TakesReport recipient name font waivers (Err error) = recipient.new ≡ recipient.old

-- Fonts were checked one after another, each once, and nothing else was done to the files.
abbrev pub AreChecked : Files → Edition → List Entry → Type 0
AreChecked files edition [] = files.new ≡ files.old
AreChecked files edition (entry ∷ entries) =
    (next : files.Store) × ChecksIn (files_by files.calls files.beside files.old next) edition entry.name entry.outcome
    × AreChecked (files_by files.calls files.beside next files.new) edition entries

-- The fonts of these names, each once and in this order, with how the check of each ends.
pub record AreEntries (files : Files) (edition : Edition) (names : List (List ℕ)) (entries : List Entry) : Type 0 where
  pub names_are : map (λ entry. entry.name) entries ≡ names
  pub checked : AreChecked files edition entries

-- They were taken one after another.
abbrev pub AreTaken : {R : Type 0} → (R → R → Entry → Option Lost → Type 0) → R → R → List Entry → Type 0
AreTaken takes old new [] = new ≡ old
AreTaken {R} takes old new (entry ∷ entries) = (next : R) × takes old next entry None × AreTaken takes next new entries

-- All fonts were checked, and how each check ended was taken in order. Or it stopped at one of them. A font that can't be read stops nothing.
pub data Ends (recipient : Recipient Entry (Option Lost)) (files : Files) (edition : Edition) (names : List (List ℕ)) (end : Option Lost) : Type 0 where
  all :
      (entries : List Entry) → AreEntries files edition names entries → AreTaken recipient.takes recipient.old recipient.new entries
      → end ≡ None → Ends recipient files edition names end
  stopped :
      (count : ℕ) → (entries : List Entry) → (last : Entry) → AreEntries files edition (take count names) (entries ++ last ∷ [])
      → (next : recipient.State) → AreTaken recipient.takes recipient.old next entries
      → (lost : Lost) → recipient.takes next recipient.new last (Some lost) → end ≡ Some lost → Ends recipient files edition names end
