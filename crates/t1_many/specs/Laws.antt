-- The statements of laws.
use Rattle.std.specs.Prelude.{◌≡◌, ◌<◌, ◌^◌, ℕ, Bool, true, List, [], ◌∷◌, ◌++◌, Option, None, Some, length, map}
use Rattle.std.specs.List.{AllByRecursion, flat_map}
use Rattle.t1_char.specs.declared.edition.Edition.{Edition}
use Rattle.t1_lines.specs.Lines.{FaultLineValue, IsFaultLine, PlaceValue, at_key, at_step, at_waiver}
use Rattle.t1_report.specs.Waivers.{is_waivable, waivers_of}
use Rattle.t1_rules.specs.Book.{code_of}
use Rattle.t1_rules.specs.declared.rule.Rule.{Rule}
use Rattle.t1_run.specs.Opening.{Sinks}
use Rattle.t1_many.specs.Handing.{Handed, HandsOn, done}
use Rattle.t1_many.specs.Plain.{ArePrinted, PlainTakes, tellings, texts}
use Rattle.t1_summary.specs.declared.found.FontClass.{FontClass}
use Rattle.t1_many.specs.declared.policy.Lost.{Lost}
use Rattle.t1_many.specs.Choice.{Choice, is_told, letters_of, picks}
use Rattle.t1_many.specs.KnownFaults.{IsKind, IsRow, Reading, RowValue, beyond, kind_of, kinds_in, row_text, rule_of, mismatch, updated}
use Rattle.t1_many.specs.Shards.{first_parts}
use Rattle.t1_many.specs.WrittenWaivers.{waivers_of_lines, waivers_text}

-- A code picks its rule alone.
abbrev pub CodesPickTheirRule : Type 0
CodesPickTheirRule = (rule other : Rule) → picks (code_of other) (code_of rule) ≡ true → rule ≡ other

-- The letters of a rule's code pick the rules of the same letters alone.
abbrev pub LettersPickTheirRules : Type 0
LettersPickTheirRules =
    (rule other : Rule) → picks (code_of other) (letters_of (code_of rule)) ≡ true → letters_of (code_of rule) ≡ letters_of (code_of other)

-- The kind of a line's fault is one.
abbrev pub LinesHaveKinds : Type 0
LinesHaveKinds = (l : FaultLineValue) → IsFaultLine l → IsKind (kind_of l)

-- It begins with the code of the line's rule.
abbrev pub KindsNameTheirRules : Type 0
KindsNameTheirRules = (l : FaultLineValue) → rule_of (kind_of l) ≡ code_of l.rule

-- What the plain form takes is printed, one thing after the other; if a write fails, a prefix of it.
abbrev pub PlainIsWritten : Type 0
PlainIsWritten =
    (reasons : Bool) (old new : Sinks) (handed : List Handed) (lost : Option Lost) → HandsOn (PlainTakes reasons) old new handed lost
    → ArePrinted old new (texts reasons handed) (tellings handed) lost

-- After the last font nothing waits to be flushed.
abbrev pub PlainIsFlushed : Type 0
PlainIsFlushed =
    (reasons : Bool) (old new : Sinks) (handed : List Handed) (name : List ℕ) (found : FontClass)
    → HandsOn (PlainTakes reasons) old new (handed ++ done name found ∷ []) None → new.out.flushed ≡ true

-- No text is that of two rows.
abbrev pub ATextIsOneRow : Type 0
ATextIsOneRow = (a b : RowValue) → IsRow a → IsRow b → row_text a ≡ row_text b → a ≡ b

-- The parts of a list, one after the other, are the list.
abbrev pub PartsAreTheWhole : Type 0
PartsAreTheWhole = (parts : ℕ) → 0 < parts → (list : List (List ℕ)) → first_parts parts list parts ≡ list

-- The kinds that were found are of rules that are reported, and they are fewer than a number of 64 bits counts.
pub record IsReading (choice : Choice) (kinds : List (List ℕ)) : Type 0 where
  pub told : AllByRecursion (λ kind. is_told choice (rule_of kind) ≡ true) kinds
  pub few : length kinds < 2 ^ 64

abbrev pub AreReadings : Choice → List Reading → Type 0
AreReadings choice readings = (font : List ℕ) (kinds : List (List ℕ)) → kinds_in readings font ≡ Some kinds → IsReading choice kinds

-- After an update no line of a font that was read goes beyond what is known.
abbrev pub NoLineIsBeyond : Type 0
NoLineIsBeyond =
    (choice : Choice) (readings : List Reading) (rows : List RowValue) (font : List ℕ) (lines : List FaultLineValue)
    → AreReadings choice readings → kinds_in readings font ≡ Some (map kind_of lines)
    → beyond (updated choice readings rows) font lines ≡ []

-- And no row differs from what was found.
abbrev pub NoRowDiffers : Type 0
NoRowDiffers =
    (choice : Choice) (readings : List Reading) (rows : List RowValue)
    → AreReadings choice readings → flat_map (mismatch choice readings) (updated choice readings rows) ≡ []

-- A line of a glyph that can be waived in an edition: its rule is one on charstrings or their steps.
abbrev pub CanBeWaived : Edition → PlaceValue → Rule → Type 0
CanBeWaived edition (at_key key index) rule = Unit {0}
CanBeWaived edition (at_step name path step) rule = is_waivable edition rule ≡ true
CanBeWaived edition (at_waiver name waived) rule = Unit {0}

-- What is written of lines is read as exactly their waivers.
abbrev pub WrittenWaiversAreRead : Type 0
WrittenWaiversAreRead =
    (edition : Edition) (lines : List FaultLineValue) → AllByRecursion (λ l. IsFaultLine l × CanBeWaived edition l.place l.rule) lines
    → waivers_of edition (waivers_text (waivers_of_lines lines)) ≡ Some (waivers_of_lines lines)
