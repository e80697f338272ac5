-- What a call that writes does.
use Rattle.std.specs.Prelude.{◌≡◌, List, ℕ, Some, Result, Ok, Err}
use Rattle.t1_io.specs.Devices.{SinkState, Wrote, PutFailed}
use Rattle.t1_forms.specs.declared.error.FormatError.{FormatError}
use Rattle.t1_forms.specs.declared.error.FormatError.TheVariants.{Memory, Broken}

-- The line was written; or memory ran out, and nothing was written; or a put failed, and a prefix went out.
abbrev pub WritesLine : {X : Type 0} → SinkState → SinkState → List ℕ → Result X FormatError → Type 0
WritesLine old new line (Ok x) = Wrote old new line
WritesLine old new line (Err Memory) = new ≡ old
WritesLine old new line (Err Broken) = PutFailed old new line

-- A device to which this was written, and which is else as it was.
abbrev pub with_text : SinkState → List ℕ → SinkState
with_text state text = record {
  written = Some text;
  flushed = state.flushed;
  flushes = state.flushes;
  failed_puts = state.failed_puts;
  failed = state.failed;
}
