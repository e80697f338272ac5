-- What is known of printers, by what is known of their devices.
use Rattle.std.specs.Prelude.{ℕ}
use Rattle.t1_io.specs.Devices.{SinkState}
use Rattle.t1_printers.specs.Formatting.{Formatting}
use Rattle.t1_printers.specs.Grouping.{Grouping}
use Rattle.t1_printers.specs.RuleGroups.{values_of}
use Rattle.t1_printers.specs.declared.formatted.Formatted.{Formatted}
use Rattle.t1_printers.specs.declared.grouped.Grouped.{Grouped}
use Rattle.t1_run.specs.Opening.{sinks_by}

abbrev pub formatting_by : {T Out Errors : Type 0} → (Out → SinkState) → (Errors → SinkState) → Formatted T Out Errors → Formatting T
formatting_by out errors printer =
    record { formatter = printer.formatter; sinks = sinks_by out errors printer.streams }

-- The groups have this room for names.
abbrev pub grouping_by : {T Out Errors : Type 0} → (Out → SinkState) → (Errors → SinkState) → ℕ → Grouped T Out Errors → Grouping
grouping_by out errors room printer =
    record { sinks = sinks_by out errors printer.streams; groups = values_of room printer.groups }
