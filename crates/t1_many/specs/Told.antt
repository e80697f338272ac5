-- What is handed on of all fonts.
use Rattle.std.specs.Prelude.{ℕ, List, map}
use Rattle.std.specs.List.{flat_map}
use Rattle.t1_many.specs.Handing.{Handed, found_of, handed_of}
use Rattle.t1_many.specs.Outcomes.{Entry, Report}
use Rattle.t1_summary.specs.declared.found.FontClass.{FontClass}
use Rattle.t1_many.specs.declared.verdict.Verdict.{Verdict}
use Rattle.t1_report.specs.Faults.{FaultValue}

-- What is handed on of fonts, one after the other, each judged by its name too, and how they were found.
abbrev pub all_handed : (List ℕ → Report → FaultValue → Verdict) → List Entry → List Handed
all_handed judges entries = flat_map (λ entry. handed_of (judges entry.name) entry.name entry.outcome) entries

abbrev pub founds_of : (List ℕ → Report → FaultValue → Verdict) → List Entry → List FontClass
founds_of judges entries = map (λ entry. found_of (judges entry.name) entry.outcome) entries
