-- Waivers, as the program keeps them.
use Rattle.std.specs.Prelude.{◌≡◌, ℕ, Option, None, Some, List, [], Result, Ok, Err, map}
use Rattle.std.specs.Borrow.{Bor}
use Rattle.indexmap.specs.IndexSet.{IndexSet}
use Rattle.t1_rules.specs.declared.rule.Rule.{Rule}
use Rattle.t1_report.specs.declared.waivers.WaiverError.{WaiverError}
use Rattle.t1_report.specs.declared.waivers.WaiverError.TheVariants.{Malformed, Memory}
use Rattle.t1_report.specs.Waivers.{Waiver}

abbrev pub waiver_view : Bor (List ℕ) × Rule → Waiver
waiver_view pair = (pair.0.now, pair.1)

abbrev pub waiver_if_any : Option (Bor (List ℕ) × Rule) → Option Waiver
waiver_if_any None = None
waiver_if_any (Some pair) = Some (waiver_view pair)

abbrev pub waivers_now : List (Bor (List ℕ) × Rule) → List Waiver
waivers_now pairs = map waiver_view pairs

abbrev pub kept_waivers : {S : Type 0} → Option (IndexSet (Bor (List ℕ) × Rule) S) → List Waiver
kept_waivers None = []
kept_waivers (Some set) = waivers_now set.keys

-- What was read: these waivers, or that a line is malformed. Running out of memory says nothing of the text.
abbrev pub IsReadAs : {W : Type 0} → (W → List Waiver) → Option (List Waiver) → Result W WaiverError → Type 0
IsReadAs value read (Ok waivers) = read ≡ Some (value waivers)
IsReadAs value read (Err Malformed) = read ≡ None
IsReadAs value read (Err Memory) = Unit {0}
