-- What the ways in which a run ends say of the status and the devices, one fact at a time.
use Rattle.std.specs.Prelude.{◌≡◌, ◌≢◌, ◌⊎◌, ℕ, true, false, List, Option, IfSome, Result, Err}
use Rattle.std.specs.Io.KnownBytes.{Appends, Keeps}
use Rattle.t1_answer.specs.Told.{program}
use Rattle.t1_font.specs.Fonts.{FontValue}
use Rattle.t1_io.specs.Devices.{AppendsFront, SourceState, one_more}
use Rattle.t1_answer.specs.declared.asked.CheckOptions.{CheckOptions}
use Rattle.t1_run.specs.declared.status.Status.{Status}
use Rattle.t1_run.specs.declared.status.Status.TheVariants.{Clean, Failed, Faults, Refused}
use Rattle.t1_report.specs.Refusals.{Refusal}
use Rattle.t1_answer.specs.Answers.{Answer, IsAnswerTo}
use Rattle.t1_answer.specs.Words.{checking}
use Rattle.t1_run.specs.Opening.{Sinks, Transition}
use Rattle.t1_run.specs.Programs.{Ends}
use Rattle.t1_run.specs.FontFiles.{font_of}
use Rattle.t1_report.specs.Waivers.{Waiver}
use Rattle.t1_answer.specs.Waived.{asks_waivers}
use Rattle.t1_run.specs.Failures.{out_of_memory_line, read_failed_line, write_failed_line}
use Rattle.t1_run.specs.WaiverFiles.{IfWaived}

-- This answer was printed, where what went out is known.
pub record Gave (answer : Answer) (result : Status) (sinks : Transition Sinks) : Type 0 where
  pub status : result ≡ answer.status
  pub output : Appends sinks.old.out.written sinks.new.out.written answer.output
  pub told : Appends sinks.old.errors.written sinks.new.errors.written answer.told

-- It is so of what the font's file and the waivers are read as, where their bytes are known.
abbrev pub IfKnown : CheckOptions → Option (List ℕ) → Option (List ℕ)
    → (Result FontValue Refusal → Result (List Waiver) Refusal → Type 0) → Type 0
IfKnown options left text P = IfSome left (λ input. IfWaived options.edition (asks_waivers options) text (P (font_of input)))

-- The answer to files that were read so was printed.
abbrev pub Answered : CheckOptions → Status → Transition Sinks → Result FontValue Refusal → Result (List Waiver) Refusal → Type 0
Answered options result sinks read waived = (answer : Answer) × (IsAnswerTo options read waived answer × Gave answer result sinks)

-- A prefix of the answer's text was written.
abbrev pub WentOut : CheckOptions → Transition Sinks → Result FontValue Refusal → Result (List Waiver) Refusal → Type 0
WentOut options sinks read waived =
    (answer : Answer)
    × (IsAnswerTo options read waived answer × AppendsFront sinks.old.out.written sinks.new.out.written answer.output)

-- The source of waivers is as it was, unless they are requested and the font was read.
pub record IsSpared (options : CheckOptions) (source waivers : Transition SourceState) : Type 0 where
  pub unasked : asks_waivers options ≡ false → waivers.new ≡ waivers.old
  pub unread : source.new.failed ≡ true → waivers.new ≡ waivers.old
  pub refused : IfSome source.old.left (λ input. (reason : Refusal) → font_of input ≡ Err reason → waivers.new ≡ waivers.old)

-- A read failed, of the font or of the waivers.
abbrev pub ReadFailed : Transition SourceState → Transition SourceState → Type 0
ReadFailed source waivers = (source.new.failed ≡ true) ⊎ (waivers.new.failed ≡ true)

-- Status 0, 1 or 2: the bytes and the options decide what was printed on the output and on standard error, and
-- nothing waits on the output.
pub record IsDecided (options : CheckOptions) (source waivers : Transition SourceState) (sinks : Transition Sinks) (result : Status) : Type 0 where
  pub answer : IfKnown options source.old.left waivers.old.left (Answered options result sinks)
  pub nothing_waits : sinks.old.out.flushed ≡ true → sinks.new.out.flushed ≡ true

-- Status 0 or 1: a report or a trace was flushed, once.
pub record IsFlushed (sinks : Transition Sinks) : Type 0 where
  pub flushed : sinks.new.out.flushed ≡ true
  pub flushes : sinks.new.out.flushes ≡ one_more sinks.old.out.flushes

-- Status 3: the reason is printed, if it can be (that no glyph has the name is an answer). What was written is a
-- prefix of the answer's text, and nothing was where the output didn't fail.
pub record HasFailed (options : CheckOptions) (source waivers : Transition SourceState) (sinks : Transition Sinks) (result : Status) : Type 0 where
  pub read_failed : ReadFailed source waivers → sinks.new.errors.failed ≡ false
      → Appends sinks.old.errors.written sinks.new.errors.written (read_failed_line program)
  pub write_failed : sinks.new.out.failed ≡ true → sinks.new.errors.failed ≡ false
      → Appends sinks.old.errors.written sinks.new.errors.written (write_failed_line program)
  pub no_memory :
      source.new.failed ≡ false → waivers.new.failed ≡ false → sinks.new.out.failed ≡ false → sinks.new.errors.failed ≡ false
      → Appends sinks.old.errors.written sinks.new.errors.written (out_of_memory_line program)
      ⊎ IfKnown options source.old.left waivers.old.left (Answered options result sinks)
  pub unwritten : sinks.new.out.failed ≡ false → Keeps sinks.old.out.written sinks.new.out.written
  pub unread : ReadFailed source waivers → sinks.new.out.failed ≡ false
  pub front : sinks.new.out.failed ≡ true → IfKnown options source.old.left waivers.old.left (WentOut options sinks)
  pub unflushed : sinks.new.out.flushes ≡ sinks.old.out.flushes

-- The facts, by the status. A run that begins with sources and sinks of which no call has failed keeps each of them.
pub record Promises (options : CheckOptions) (source waivers : Transition SourceState) (sinks : Transition Sinks) (result : Status) : Type 0 where
  -- The status is 3 wherever a device failed.
  pub broken : ReadFailed source waivers ⊎ ((sinks.new.out.failed ≡ true) ⊎ (sinks.new.errors.failed ≡ true)) → result ≡ Failed
  pub decided : result ≢ Failed → IsDecided options source waivers sinks result
  pub reported : (result ≡ Clean) ⊎ (result ≡ Faults) → IsFlushed sinks
  -- On a refusal nothing was done to the output.
  pub untouched : result ≡ Refused → sinks.new.out ≡ sinks.old.out
  pub failure : result ≡ Failed → HasFailed options source waivers sinks result
  -- The waivers are read where they are requested, once the font is read.
  pub spared : IsSpared options source waivers

-- Each way in which a run ends keeps them.
abbrev pub RunsKeepPromises : Type 0
RunsKeepPromises =
    (options : CheckOptions) (source waivers : Transition SourceState) (sinks : Transition Sinks) (result : Status)
    → waivers.old.failed ≡ false → sinks.old.out.failed ≡ false → sinks.old.errors.failed ≡ false
    → Ends checking options source waivers sinks result → Promises options source waivers sinks result
