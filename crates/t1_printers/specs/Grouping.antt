-- What is taken of things that are handed on: lines are kept in groups until their font is done.
use Rattle.std.specs.Prelude.{◌≡◌, ℕ, List, Option, None, Some}
use Rattle.t1_printers.specs.GroupLines.{Writing, group_lines}
use Rattle.t1_printers.specs.Groups.{GroupValue}
use Rattle.t1_printers.specs.Held.{held_line}
use Rattle.t1_printers.specs.RuleGroups.{no_groups, with_line}
use Rattle.t1_io.specs.Devices.{Delivered, DeliveryFailed, PutFailed, Wrote}
use Rattle.t1_many.specs.Handing.{Handed, done, failure, line}
use Rattle.t1_many.specs.declared.policy.Lost.{Lost}
use Rattle.t1_many.specs.declared.policy.Lost.TheVariants.{Device, Memory}
use Rattle.t1_many.specs.FontErrors.{reason_of}
use Rattle.t1_many.specs.declared.font_error.FontError.{FontError}
use Rattle.t1_many.specs.declared.font_error.FontError.TheVariants.{Refused, Unchecked}
use Rattle.t1_many.specs.Plain.{IsLinePut}
use Rattle.t1_many.specs.Unchecked.{unchecked_line}
use Rattle.t1_run.specs.Opening.{Sinks}

-- The devices, and the groups of the font whose lines are handed on.
pub record Grouping : Type 0 where
  pub sinks : Sinks
  pub groups : List GroupValue

-- A line is kept; or memory ran out.
abbrev pub KeepsLine : Grouping → Grouping → List GroupValue → Option Lost → Type 0
KeepsLine old new groups None = (new.sinks ≡ old.sinks) × (new.groups ≡ groups)
KeepsLine old new groups (Some Device) = ⊥
KeepsLine old new groups (Some Memory) = new.sinks ≡ old.sinks

-- That a font wasn't checked was printed on standard error, and then a text was put; or standard error failed.
pub data TellsUnchecked (writing : Writing) (old new : Grouping) (name reason : List ℕ) (lost : Option Lost) : Type 0 where
  told :
      Wrote old.sinks.errors new.sinks.errors (unchecked_line name reason) → IsLinePut old.sinks.out new.sinks.out (writing.unchecked name reason) lost
      → TellsUnchecked writing old new name reason lost
  untold :
      PutFailed old.sinks.errors new.sinks.errors (unchecked_line name reason) → new.sinks.out ≡ old.sinks.out → lost ≡ Some Device
      → TellsUnchecked writing old new name reason lost

-- Why there is no report of a font was put.
abbrev pub TellsFailure : Writing → Grouping → Grouping → List ℕ → FontError → Option Lost → Type 0
TellsFailure writing old new name (Refused code) lost =
    IsLinePut old.sinks.out new.sinks.out (writing.refusal name code) lost × (new.sinks.errors ≡ old.sinks.errors)
TellsFailure writing old new name (Unchecked why) lost = TellsUnchecked writing old new name (reason_of why) lost

-- The lines of a font's groups were written and flushed, and no group has lines any more; or a device failed; or memory ran out before.
abbrev pub WritesGroups : Writing → Grouping → Grouping → List ℕ → Option Lost → Type 0
WritesGroups writing old new name None =
    Delivered old.sinks.out new.sinks.out (group_lines (writing.line name) old.groups) × (new.sinks.errors ≡ old.sinks.errors)
    × (new.groups ≡ no_groups writing.room)
WritesGroups writing old new name (Some Device) =
    DeliveryFailed old.sinks.out new.sinks.out (group_lines (writing.line name) old.groups) × (new.sinks.errors ≡ old.sinks.errors)
WritesGroups writing old new name (Some Memory) = new.sinks ≡ old.sinks

-- One thing that is handed on.
abbrev pub GroupedTakes : Writing → Grouping → Grouping → Handed → Option Lost → Type 0
GroupedTakes writing old new (line name font waivers fault) lost =
    KeepsLine old new (with_line old.groups (held_line writing.reasons font waivers fault)) lost
GroupedTakes writing old new (failure name reason) lost = TellsFailure writing old new name reason lost × (new.groups ≡ old.groups)
GroupedTakes writing old new (done name found) lost = WritesGroups writing old new name lost
