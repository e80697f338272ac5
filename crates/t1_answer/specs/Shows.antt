-- What is printed of a font that was read, by waivers, and the status.
use Rattle.std.specs.Prelude.{◌≡◌, ℕ, List, None, Some, option_map, string_bytes}
use Rattle.t1_font.specs.Fonts.{FontValue}
use Rattle.t1_report.specs.Checked.{checked}
use Rattle.t1_report.specs.Faults.{FaultValue}
use Rattle.t1_report.specs.Reports.{IsReport}
use Rattle.t1_answer.specs.declared.asked.CheckOptions.{CheckOptions}
use Rattle.t1_run.specs.declared.status.Status.{Status}
use Rattle.t1_run.specs.declared.status.Status.TheVariants.{Clean, Failed}
use Rattle.t1_answer.specs.Answers.{selection, status_of}
use Rattle.t1_answer.specs.Lines.{lines_of}
use Rattle.t1_answer.specs.Told.{program}
use Rattle.t1_rules.specs.Components.{glyph_named}
use Rattle.t1_answer.specs.Traces.{trace_of}
use Rattle.t1_report.specs.Waivers.{Waiver}
use Rattle.t1_run.specs.Failures.{no_glyph_line, out_of_memory_line}
use Rattle.t1_run.specs.Opening.{Sinks}
use Rattle.t1_run.specs.Telling.{Gives, Tells}

-- What the options request of a font: lines of its report, or the trace of a glyph, where there is one of the name.
pub data Shows (options : CheckOptions) (font : FontValue) (waivers : List Waiver) (sinks sinks' : Sinks) (result : Status) : Type 0 where
  reported :
      options.trace ≡ None → (faults : List FaultValue) → IsReport (checked font options.edition) waivers faults
      → Gives program (lines_of font waivers (selection options faults)) (status_of (selection options faults)) sinks sinks' result
      → Shows options font waivers sinks sinks' result
  traced :
      (name : List ℕ) → option_map string_bytes options.trace ≡ Some name → (glyph : ℕ)
      → glyph_named font name ≡ Some glyph
      → Gives program (trace_of options.edition font glyph) Clean sinks sinks' result
      → Shows options font waivers sinks sinks' result
  no_glyph :
      (name : List ℕ) → option_map string_bytes options.trace ≡ Some name → glyph_named font name ≡ None
      → sinks'.out ≡ sinks.out → Tells (no_glyph_line program name) Failed sinks.errors sinks'.errors result
      → Shows options font waivers sinks sinks' result
  -- status 3
  no_room :
      options.trace ≡ None → sinks'.out ≡ sinks.out
      → Tells (out_of_memory_line program) Failed sinks.errors sinks'.errors result
      → Shows options font waivers sinks sinks' result
