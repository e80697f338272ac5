-- From words and files to the answer.
use Rattle.std.proofs.Common.{◌≡◌, ◌≢◌, false, ℕ, List, Option, option_map, string_bytes, refl, sym, subst}
use Rattle.clap.specs.Words.{Text}
use Rattle.t1_answer.specs.CommandLine.{t1check}
use Rattle.t1_answer.specs.Laws.Runs.{RunsKeepPromises}
use Rattle.t1_answer.specs.Told.{program}
use Rattle.t1_answer.specs.Words.{AreTaken, checking}
use Rattle.t1_answer.specs.declared.asked.CheckOptions.{CheckOptions}
use Rattle.t1_io.specs.Devices.{SinkState, SourceState}
use Rattle.t1_run.specs.Answering.{IsOpened, RunsOn}
use Rattle.t1_run.specs.Answering.Answers.{explained, not_opened, read_file, read_input}
use Rattle.t1_run.specs.Answering.IsOpened.{none_named, opened}
use Rattle.t1_run.specs.Answering.RunsOn.{no_waivers, ran}
use Rattle.t1_run.specs.Opening.{Sinks, Transition}
use Rattle.t1_run.specs.Telling.{Explains, Tells}
use Rattle.t1_run.specs.Telling.Gives.{given, ungiven}
use Rattle.t1_run.specs.Telling.Tells.{told, untold}
use Rattle.t1_run.specs.Words.{AreRefused}
use Rattle.t1_run.specs.declared.status.Status.{Status}
use Rattle.t1_run.specs.declared.status.Status.TheVariants.{Failed}
use Rattle.t1_run.specs.declared.usage.UsageError.{UsageError}
use Rattle.t1_run.specs.declared.usage.UsageError.TheVariants.{Help, Usage, Memory}
use Rattle.t1check.specs.Laws.{AreWaiversOf, Folder, IsAnswered, IsFontOf, WordsAndFilesAreAnswered, file_in}
use Rattle.t1check.specs.Laws.IsAnswered.{answered, helped}

-- A failure that is printed ends with 3.
three : (text : List ℕ) (errors errors' : SinkState) (result : Status) → Tells text Failed errors errors' result → result ≡ Failed
three text errors errors' result (told wrote is) = is
three text errors errors' result (untold broke is) = is

module _ (words : List Text) (fonts waivers : Folder) (input : SourceState) (sinks : Transition Sinks) (result : Status) (went : result ≢ Failed) where
  by_explaining : (error : UsageError) → AreRefused t1check words error → Explains program error sinks.old sinks.new result
      → IsAnswered words fonts waivers input sinks result
  by_explaining (Help text) refused (given delivered same is) = helped text refused delivered
  by_explaining (Help text) refused (ungiven broke tells) = absurd (went (three _ _ _ _ tells))
  by_explaining (Usage text) refused (same, tells) = absurd (went (three _ _ _ _ tells))
  by_explaining Memory refused (same, tells) = absurd (went (three _ _ _ _ tells))

  module _ (left : Option SourceState) where
    -- the source of the waivers, and that no read of it had failed
    of_waivers : (named : Option Text) (text : Transition SourceState) → IsOpened (file_in waivers left) named text → AreWaiversOf waivers named text.old
    of_waivers named text (opened name is opens sound at) = subst (λ (n : Option Text). AreWaiversOf waivers n text.old) (sym is) opens
    of_waivers named text (none_named is sound at) = subst (λ (n : Option Text). AreWaiversOf waivers n text.old) (sym is) tt

    sound_waivers : (named : Option Text) (text : Transition SourceState) → IsOpened (file_in waivers left) named text → text.old.failed ≡ false
    sound_waivers named text (opened name is opens sound at) = sound
    sound_waivers named text (none_named is sound at) = sound

    by_running : RunsKeepPromises → sinks.old.out.failed ≡ false → sinks.old.errors.failed ≡ false
        → (options : CheckOptions) → AreTaken words options → (source : Transition SourceState)
        → IsFontOf fonts input (option_map string_bytes options.file) source.old
        → RunsOn checking options (file_in waivers left) source sinks result → IsAnswered words fonts waivers input sinks result
    by_running keep out_sound errors_sound options taken source of (ran text opening ends) =
        answered options taken source.old of text.old (of_waivers _ text opening)
        ((keep options source text sinks result (sound_waivers _ text opening) out_sound errors_sound ends).decided went).answer
    by_running keep out_sound errors_sound options taken source of (no_waivers name named cannot same none kept tells) =
        absurd (went (three _ _ _ _ tells))

pub all_answered : RunsKeepPromises → WordsAndFilesAreAnswered
all_answered keep words fonts waivers font waived input sinks result input_sound out_sound errors_sound
    (explained error refused none same explains) went =
    by_explaining words fonts waivers input.old sinks result went error refused explains
all_answered keep words fonts waivers font waived input sinks result input_sound out_sound errors_sound
    (read_input options taken unnamed none runs) went =
    by_running words fonts waivers input.old sinks result went waived keep out_sound errors_sound options taken input
    (subst (λ (n : Option Text). IsFontOf fonts input.old n input.old) (sym unnamed) refl) runs
all_answered keep words fonts waivers font waived input sinks result input_sound out_sound errors_sound
    (read_file options name taken named same source sound opens at runs) went =
    by_running words fonts waivers input.old sinks result went waived keep out_sound errors_sound options taken source
    (subst (λ (n : Option Text). IsFontOf fonts input.old n source.old) (sym named) opens) runs
all_answered keep words fonts waivers font waived input sinks result input_sound out_sound errors_sound
    (not_opened options name taken named none same cannot kept tells) went = absurd (went (three _ _ _ _ tells))
