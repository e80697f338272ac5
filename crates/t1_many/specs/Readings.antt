-- Fonts whose lines are reported by known faults, and what is found in them.
use Rattle.std.specs.Global.{Global}
use Rattle.std.specs.Prelude.{◌≡◌, ◌⊎◌, ℕ, List, [], ◌∷◌, ◌++◌, if◌then◌else◌, map, Option, None, Some, string_bytes}
use Rattle.std.specs.declared.vec.Vec.{Vec}
use Rattle.t1_font.specs.Fonts.{FontValue}
use Rattle.t1_many.specs.Handing.{HandsFont, Keeping}
use Rattle.t1_many.specs.Known.{kind_in, verdict_known}
use Rattle.t1_many.specs.KnownFaults.{Reading as FoundIn, counts_of}
use Rattle.t1_many.specs.Outcomes.{Entry, Outcome, Report, failed, reported}
use Rattle.t1_many.specs.Verdicts.{told_faults}
use Rattle.t1_many.specs.declared.readings.Reading.{Reading}
use Rattle.t1_many.specs.declared.policy.Lost.{Lost}
use Rattle.t1_many.specs.declared.policy.Lost.TheVariants.{Memory}
use Rattle.t1_many.specs.declared.verdict.Verdict.{Verdict}
use Rattle.t1_many.specs.declared.verdict.Verdict.TheVariants.{Known, Skipped}
use Rattle.t1_report.specs.Faults.{FaultValue}
use Rattle.t1_report.specs.Waivers.{Waiver}
use Rattle.t1_rules.specs.Book.{number_of}
use Rattle.t1_rules.specs.Mask.{has}
use Rattle.t1_rules.specs.declared.mask.Mask.{Mask}

-- The faults of a report are judged by what is known of its font.
abbrev pub by_known : (List ℕ → ℕ) → Mask → List ℕ → Report → FaultValue → Verdict
by_known counts rules name report = verdict_known counts rules name report.font report.waivers report.faults

-- Those whose rules are reported become known.
abbrev pub as_known : Mask → Report → FaultValue → Verdict
as_known rules report fault = if has rules (number_of fault.rule) then Known else Skipped

-- How often each kind was found, as the program keeps it.
abbrev pub counts_in : List (Vec ℕ Global × ℕ) → List (List ℕ × ℕ)
counts_in entries = map (λ e. (e.0.items, e.1)) entries

-- What was found in a font is kept: its name, and how often each kind was found.
pub record IsReadingOf (reading : Reading) (found : FoundIn) : Type 0 where
  pub font : string_bytes reading.font ≡ found.font
  pub counts : counts_in reading.counts.entries ≡ counts_of found.kinds

-- These faults were found in a font.
abbrev pub IsReading : List ℕ → FontValue → List Waiver → List FaultValue → Reading → Type 0
IsReading name font waivers faults reading = IsReadingOf reading (record { font = name; kinds = map (kind_in font waivers) faults })

-- What was found is kept, unless it stopped before, or memory ran out.
abbrev pub Keeps : List Reading → List Reading → Reading → Option Lost → Option Lost → Type 0
Keeps old new reading None None = new ≡ old ++ reading ∷ []
Keeps old new reading None (Some lost) = (lost ≡ Memory) × (new ≡ old)
Keeps old new reading (Some before) None = ⊥
Keeps old new reading (Some before) (Some lost) = (lost ≡ before) × (new ≡ old)

-- A font is taken: what is reported of it is handed on, and what was found in it is kept where its report was made.
abbrev pub TakesOutcome : Keeping Reading → (Report → FaultValue → Verdict) → Mask → List ℕ → Outcome → Option Lost → Type 0
TakesOutcome keeping judges rules name (reported report) None =
    HandsFont keeping.printer judges (record { name = name; outcome = reported report }) None
    × (reading : Reading) × IsReading name report.font report.waivers (told_faults rules report.faults) reading
    × (keeping.new ≡ keeping.old ++ reading ∷ [])
TakesOutcome keeping judges rules name (reported report) (Some lost) =
    (HandsFont keeping.printer judges (record { name = name; outcome = reported report }) (Some lost)
    ⊎ ((lost ≡ Memory) × HandsFont keeping.printer judges (record { name = name; outcome = reported report }) None))
    × (keeping.new ≡ keeping.old)
TakesOutcome keeping judges rules name (failed reason) lost =
    HandsFont keeping.printer judges (record { name = name; outcome = failed reason }) lost × (keeping.new ≡ keeping.old)

abbrev pub TakesKnown : Keeping Reading → (Report → FaultValue → Verdict) → Mask → Entry → Option Lost → Type 0
TakesKnown keeping judges rules entry lost = TakesOutcome keeping judges rules entry.name entry.outcome lost
