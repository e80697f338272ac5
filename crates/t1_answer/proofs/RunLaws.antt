-- Each way in which a run ends keeps its promises.
use Rattle.std.proofs.Common.{option_map, string_bytes, ◌≡◌, ◌≢◌, ◌⊎◌, inl, inr, ℕ, Bool, true, false, true≢false, List, [], ◌∷◌, Option, None, Some, IfSome, Result, Ok, Err, refl, sym, ap, subst, ◌∙◌}
use Rattle.std.specs.Io.KnownBytes.{Appends, Keeps}
use Rattle.std.proofs.KnownBytes.{Appends-nil, Keeps-refl}
use Rattle.t1_char.specs.declared.edition.Edition.{Edition}
use Rattle.t1_font.specs.Fonts.{FontValue}
use Rattle.t1_io.specs.Devices.{SinkState, SourceState, one_more}
use Rattle.t1_answer.specs.declared.asked.CheckOptions.{CheckOptions}
use Rattle.t1_run.specs.declared.status.Status.{Status}
use Rattle.t1_run.specs.declared.status.Status.TheVariants.{Clean, Failed, Faults, Refused}
use Rattle.t1_report.specs.Refusals.{Refusal, refusal_code_of}
use Rattle.t1_answer.specs.Answers.{Answer, IsAnswerTo, IsShown, selection, refused, reported, status_of, traced_at}
use Rattle.t1_answer.specs.Shows.{Shows}
use Rattle.t1_answer.specs.Shows.Shows.{no_glyph, no_room, reported as was_reported, traced as was_traced}
use Rattle.t1_answer.specs.Traces.{trace_of}
use Rattle.t1_answer.specs.Words.{checking}
use Rattle.t1_run.specs.Opening.{Sinks, Transition}
use Rattle.t1_run.specs.Programs.{Ends, EndsWith}
use Rattle.t1_run.specs.Programs.Ends.{font_read, font_refused, no_memory as was_no_memory, read_failed as was_read_failed}
use Rattle.t1_run.specs.Programs.EndsWith.{no_room as no_waiver_room, shown, waivers_refused, waivers_unread}
use Rattle.t1_run.specs.Telling.Gives.{given, ungiven}
use Rattle.t1_run.specs.Telling.Tells.{told, untold}
use Rattle.t1_run.specs.FontFiles.{font_of}
use Rattle.t1_answer.specs.Laws.Runs.{Answered, IfKnown, IsSpared, ReadFailed, RunsKeepPromises, WentOut}
use Rattle.t1_answer.specs.Told.{program, told_of, unread_status}
use Rattle.t1_report.specs.Waivers.{Waiver}
use Rattle.std.specs.Option.{is_some}
use Rattle.t1_answer.specs.Waived.{asks_waivers, unless_traced}
use Rattle.t1_run.proofs.FilesRead.{of-any, of-waived, waived-weaker}
use Rattle.t1_font.specs.declared.unread.RefusalCode.{RefusalCode}
use Rattle.t1_run.specs.Failures.{failure_line, failure_of, failure_status, out_of_memory_line, read_failed_line, refused_by, write_failed_line, no_glyph_line}
use Rattle.t1_run.specs.declared.failure.Failure.{Failure}
use Rattle.t1_run.specs.declared.failure.Failure.TheVariants as failure
use Rattle.t1_run.specs.FontFiles.{AreRead}
use Rattle.t1_run.specs.Telling.{Gives, Tells}
use Rattle.t1_run.specs.WaiverFiles.{AreWaived, IfWaived, IsHeard}

-- The facts one by one, before they are grouped by the status.
record Facts (options : CheckOptions) (source waivers : Transition SourceState) (sinks : Transition Sinks) (result : Status) : Type 0 where
  answer : result ≢ Failed → IfKnown options source.old.left waivers.old.left (Answered options result sinks)
  flushed : (result ≡ Clean) ⊎ (result ≡ Faults)
      → (sinks.new.out.flushed ≡ true) × (sinks.new.out.flushes ≡ one_more sinks.old.out.flushes)
  untouched : result ≡ Refused → sinks.new.out ≡ sinks.old.out
  nothing_waits : result ≢ Failed → sinks.old.out.flushed ≡ true → sinks.new.out.flushed ≡ true
  broken : ReadFailed source waivers ⊎ ((sinks.new.out.failed ≡ true) ⊎ (sinks.new.errors.failed ≡ true)) → result ≡ Failed
  read_failed : ReadFailed source waivers → sinks.new.errors.failed ≡ false
      → Appends sinks.old.errors.written sinks.new.errors.written (read_failed_line program)
  write_failed : sinks.new.out.failed ≡ true → sinks.new.errors.failed ≡ false
      → Appends sinks.old.errors.written sinks.new.errors.written (write_failed_line program)
  no_memory :
      result ≡ Failed → source.new.failed ≡ false → waivers.new.failed ≡ false → sinks.new.out.failed ≡ false
      → sinks.new.errors.failed ≡ false
      → Appends sinks.old.errors.written sinks.new.errors.written (out_of_memory_line program)
      ⊎ IfKnown options source.old.left waivers.old.left (Answered options result sinks)
  unwritten : result ≡ Failed → sinks.new.out.failed ≡ false → Keeps sinks.old.out.written sinks.new.out.written
  unread : ReadFailed source waivers → sinks.new.out.failed ≡ false
  front : sinks.new.out.failed ≡ true → IfKnown options source.old.left waivers.old.left (WentOut options sinks)
  unflushed : result ≡ Failed → sinks.new.out.flushes ≡ sinks.old.out.flushes
  spared : IsSpared options source waivers

-- ---- statuses

clean-failed : Clean ≡ Failed → ⊥
clean-failed h = cc

faults-failed : Faults ≡ Failed → ⊥
faults-failed h = cc

refused-failed : Refused ≡ Failed → ⊥
refused-failed h = cc

-- the status of a report isn't 3
list-not-failed : {A : Type 0} (xs : List A) → status_of xs ≡ Failed → ⊥
list-not-failed [] h = clean-failed h
list-not-failed (x ∷ xs) h = faults-failed h

-- nor is it 2
list-not-refused : {A : Type 0} (xs : List A) → status_of xs ≡ Refused → ⊥
list-not-refused [] h = cc
list-not-refused (x ∷ xs) h = cc

-- a status is not that of a report, where it is 2 or 3
never-report : (result : Status) → (result ≡ Clean) ⊎ (result ≡ Faults) → (result ≡ Refused) ⊎ (result ≡ Failed) → ⊥
never-report result (inl a) (inl b) = cc
never-report result (inl a) (inr b) = cc
never-report result (inr a) (inl b) = cc
never-report result (inr a) (inr b) = cc

-- ---- what was printed

-- where standard error works the text was printed, with its status
told-text : (text : List ℕ) (status : Status) (e e' : SinkState) (result : Status) → Tells text status e e' result → e'.failed ≡ false
    → Appends e.written e'.written text
told-text text status e e' result (told wrote is) whole = wrote.bytes
told-text text status e e' result (untold broke is) whole = absurd (true≢false (sym broke.failed ∙ whole))

-- where the status isn't 3 the text was printed
told-unfailed : (text : List ℕ) (status : Status) (e e' : SinkState) (result : Status) → Tells text status e e' result → result ≢ Failed
    → Appends e.written e'.written text × (result ≡ status)
told-unfailed text status e e' result (told wrote is) ok = (wrote.bytes, is)
told-unfailed text status e e' result (untold broke is) ok = absurd (ok is)

-- a failed standard error means status 3
told-broken : (text : List ℕ) (status : Status) (e e' : SinkState) (result : Status) → e.failed ≡ false → Tells text status e e' result → e'.failed ≡ true
    → result ≡ Failed
told-broken text status e e' result sound (told wrote is) broken = absurd (true≢false (sym broken ∙ wrote.failed ∙ sound))
told-broken text status e e' result sound (untold broke is) broken = is

-- the status is the one, or 3
told-status : (text : List ℕ) (status : Status) (e e' : SinkState) (result : Status) → Tells text status e e' result → (result ≡ status) ⊎ (result ≡ Failed)
told-status text status e e' result (told wrote is) = inl is
told-status text status e e' result (untold broke is) = inr is

-- a failure that is printed ends with 3
told-failed : (text : List ℕ) (e e' : SinkState) (result : Status) → Tells text Failed e e' result → result ≡ Failed
told-failed text e e' result (told wrote is) = is
told-failed text e e' result (untold broke is) = is

-- ---- known bytes

keeps-same : (a b : SinkState) → b ≡ a → Keeps a.written b.written
keeps-same a b same = subst (λ (s : SinkState). Keeps a.written s.written) (sym same) (Keeps-refl a.written)

nothing-same : (a b : SinkState) → b ≡ a → Appends a.written b.written []
nothing-same a b same = subst (λ (s : SinkState). Appends a.written s.written []) (sym same) (Appends-nil a.written)

-- what is so of a reading is so of the bytes that are read so
of-read : (P : Result FontValue Refusal → Type 0) (left : Option (List ℕ)) (read : Result FontValue Refusal) → AreRead left read → P read
    → IfSome left (λ input. P (font_of input))
of-read P None read are holds = tt
of-read P (Some input) read are holds = subst P (sym are) holds

some-weaker : (P Q : List ℕ → Type 0) (left : Option (List ℕ)) → ((input : List ℕ) → P input → Q input) → IfSome left P → IfSome left Q
some-weaker P Q None on holds = tt
some-weaker P Q (Some input) on holds = on input holds

some-any : (P : List ℕ → Type 0) (left : Option (List ℕ)) → ((input : List ℕ) → P input) → IfSome left P
some-any P None all = tt
some-any P (Some input) all = all input

-- ---- waivers that are requested

refused_asked : (edition : Edition) (asked : Bool) (text : Option (List ℕ)) (reason : Refusal) → AreWaived edition asked text (Err reason) → asked ≡ true
refused_asked edition true text reason is = refl
refused_asked edition false text reason is = cc

untraced : {A B C : Type 0} (f : B → C) (trace : Option A) (waive : Option B) → is_some (option_map f (unless_traced trace waive)) ≡ true
    → trace ≡ None
untraced f None waive asked = refl
untraced f (Some t) waive asked = absurd (true≢false (sym asked))

-- ---- a report or a trace

module _ (options : CheckOptions) (source texts : Transition SourceState) (sinks : Transition Sinks) (result : Status)
    (waivers_sound : texts.old.failed ≡ false) (sound : sinks.old.out.failed ≡ false) (errors_sound : sinks.old.errors.failed ≡ false) where
  abbrev left : Option (List ℕ)
  left = source.old.left

  abbrev failed : Bool
  failed = source.new.failed

  abbrev waivers : SourceState
  waivers = texts.old

  abbrev waivers' : SourceState
  waivers' = texts.new

  abbrev out : SinkState
  out = sinks.old.out

  abbrev out' : SinkState
  out' = sinks.new.out

  abbrev errors : SinkState
  errors = sinks.old.errors

  abbrev errors' : SinkState
  errors' = sinks.new.errors

  abbrev KeepsFacts : Type 0
  KeepsFacts = Facts options source texts sinks result

  abbrev Spared : Type 0
  Spared = IsSpared options source texts

  abbrev Answering : Answer → Type 0
  Answering answer = IfKnown options left waivers.left (λ read waived. IsAnswerTo options read waived answer)

  -- both were read so
  of-both : (answer : Answer) (read : Result FontValue Refusal) (waived : Result (List Waiver) Refusal) → AreRead left read
      → AreWaived options.edition (asks_waivers options) waivers.left waived → IsAnswerTo options read waived answer → Answering answer
  of-both answer read waived are is holds =
      of-read (λ r. IfWaived options.edition (asks_waivers options) waivers.left (λ w. IsAnswerTo options r w answer)) left read are
      (of-waived options.edition (λ w. IsAnswerTo options read w answer) (asks_waivers options) waivers.left waived is holds)

  -- whatever the waivers are
  of-font : (answer : Answer) (read : Result FontValue Refusal) → AreRead left read
      → ((waived : Result (List Waiver) Refusal) → IsAnswerTo options read waived answer) → Answering answer
  of-font answer read are holds =
      of-read (λ r. IfWaived options.edition (asks_waivers options) waivers.left (λ w. IsAnswerTo options r w answer)) left read are
      (of-any options.edition (λ w. IsAnswerTo options read w answer) (asks_waivers options) waivers.left holds)

  known-weaker : (answer : Answer) (Q : Result FontValue Refusal → Result (List Waiver) Refusal → Type 0)
      → ((read : Result FontValue Refusal) (waived : Result (List Waiver) Refusal) → IsAnswerTo options read waived answer → Q read waived)
      → Answering answer → IfKnown options left waivers.left Q
  known-weaker answer Q on holds =
      some-weaker (λ input. IfWaived options.edition (asks_waivers options) waivers.left (λ w. IsAnswerTo options (font_of input) w answer))
      (λ input. IfWaived options.edition (asks_waivers options) waivers.left (Q (font_of input))) left
      (λ input h. waived-weaker options.edition (λ w. IsAnswerTo options (font_of input) w answer) (Q (font_of input)) (asks_waivers options) waivers.left
      (λ w is. on (font_of input) w is) h) holds

  answered : (answer : Answer) → Answering answer → result ≡ answer.status → Appends out.written out'.written answer.output
      → Appends errors.written errors'.written answer.told
      → IfKnown options left waivers.left (Answered options result sinks)
  answered answer is status output line =
      known-weaker answer (Answered options result sinks)
      (λ read waived so. (answer, (so, record { status = status; output = output; told = line }))) is

  -- ---- the source of waivers

  -- no read failed
  fine : failed ≡ false → waivers'.failed ≡ waivers.failed → ReadFailed source texts → ⊥
  fine unfailed kept (inl source) = true≢false (sym source ∙ unfailed)
  fine unfailed kept (inr other) = true≢false (sym other ∙ kept ∙ waivers_sound)

  spared_whole : waivers' ≡ waivers → Spared
  spared_whole same = record {
    unasked = λ unasked. same;
    unread = λ source. same;
    refused =
        some-any (λ input. (reason : Refusal) → font_of input ≡ Err reason → waivers' ≡ waivers) left (λ input reason is. same);
  }

  never_refused : (font : FontValue) → AreRead left (Ok font) → IfSome left (λ input. (reason : Refusal) → font_of input ≡ Err reason → waivers' ≡ waivers)
  never_refused font are = of-read (λ r. (reason : Refusal) → r ≡ Err reason → waivers' ≡ waivers) left (Ok font) are (λ reason is. cc)

  spared_by : (font : FontValue) → AreRead left (Ok font) → failed ≡ false → (asks_waivers options ≡ false → waivers' ≡ waivers)
      → Spared
  spared_by font are unfailed unasked =
      record { unasked = unasked; unread = λ source. absurd (true≢false (sym source ∙ unfailed)); refused = never_refused font are }

  same_failed : waivers' ≡ waivers → waivers'.failed ≡ waivers.failed
  same_failed same = ap (λ (s : SourceState). s.failed) same

  -- an answer that was printed whole, with a status other than 2 and 3
  after_given : (answer : Answer) → Answering answer → failed ≡ false → waivers'.failed ≡ waivers.failed → Spared
      → answer.told ≡ []
      → (answer.status ≡ Refused → ⊥) → (answer.status ≡ Failed → ⊥) → Gives program answer.output answer.status sinks.old sinks.new result
      → KeepsFacts
  after_given answer is_answer unfailed kept_source spared silent never_two never_three (given wrote kept is) =
      let out_sound : out'.failed ≡ false = wrote.failed ∙ sound in
      record {
        answer = λ went. answered answer is_answer is wrote.bytes
            (subst (Appends errors.written errors'.written) (sym silent) (nothing-same errors errors' kept));
        flushed = λ either. (wrote.waits, wrote.flushes);
        untouched = λ two. absurd (never_two (sym is ∙ two));
        nothing_waits = λ went was. wrote.waits;
        broken = λ device. elim device [
          | inl source ↦ absurd (fine unfailed kept_source source)
          | inr (inl output) ↦ absurd (true≢false (sym output ∙ out_sound))
          | inr (inr line) ↦ absurd (true≢false (sym line ∙ ap (λ (s : SinkState). s.failed) kept ∙ errors_sound))
        ];
        read_failed = λ source. absurd (fine unfailed kept_source source);
        write_failed = λ output. absurd (true≢false (sym output ∙ out_sound));
        no_memory = λ three. absurd (never_three (sym is ∙ three));
        unwritten = λ three. absurd (never_three (sym is ∙ three));
        unread = λ source. out_sound;
        front = λ output. absurd (true≢false (sym output ∙ out_sound));
        unflushed = λ three. absurd (never_three (sym is ∙ three));
        spared = spared;
      }
  after_given answer is_answer unfailed kept_source spared silent never_two never_three (ungiven broke tells) =
      let three : result ≡ Failed = told-failed (write_failed_line program) errors errors' result tells in
      record {
        answer = λ went. absurd (went three);
        flushed = λ either. absurd (never-report result either (inr three));
        untouched = λ two. absurd (refused-failed (sym two ∙ three));
        nothing_waits = λ went. absurd (went three);
        broken = λ device. three;
        read_failed = λ source. absurd (fine unfailed kept_source source);
        write_failed = λ output whole. told-text (write_failed_line program) Failed errors errors' result tells whole;
        no_memory = λ failure source other output. absurd (true≢false (sym broke.failed ∙ output));
        unwritten = λ failure output. absurd (true≢false (sym broke.failed ∙ output));
        unread = λ source. absurd (fine unfailed kept_source source);
        front = λ output. known-weaker answer (WentOut options sinks) (λ read waived so. (answer, (so, broke.front))) is_answer;
        unflushed = λ failure. broke.flushes;
        spared = spared;
      }

  -- ---- neither

  -- the output as it was
  out_same : out' ≡ out → out'.failed ≡ false
  out_same same = ap (λ (s : SinkState). s.failed) same ∙ sound

  -- an answer with nothing on the output, status 2 or 3
  after_told : (answer : Answer) → Answering answer → failed ≡ false → waivers'.failed ≡ waivers.failed → Spared
      → answer.output ≡ []
      → (answer.status ≡ Refused) ⊎ (answer.status ≡ Failed) → out' ≡ out → Tells answer.told answer.status errors errors' result
      → KeepsFacts
  after_told answer is_answer unfailed kept_source spared silent kind same tells =
      let two_or_three : (result ≡ Refused) ⊎ (result ≡ Failed) = elim (told-status answer.told answer.status errors errors' result tells) [
        | inl is ↦ elim kind [ inl two ↦ inl (is ∙ two) | inr three ↦ inr (is ∙ three) ]
        | inr three ↦ inr three
      ] in
      let nothing : Appends out.written out'.written answer.output = subst (Appends out.written out'.written) (sym silent) (nothing-same out out' same) in
      record {
        answer = λ went.
            let (text, status) = told-unfailed answer.told answer.status errors errors' result tells went in
            answered answer is_answer status nothing text;
        flushed = λ either. absurd (never-report result either two_or_three);
        untouched = λ two. same;
        nothing_waits = λ went was. ap (λ (s : SinkState). s.flushed) same ∙ was;
        broken = λ device. elim device [
          | inl source ↦ absurd (fine unfailed kept_source source)
          | inr (inl output) ↦ absurd (true≢false (sym output ∙ out_same same))
          | inr (inr line) ↦ told-broken answer.told answer.status errors errors' result errors_sound tells line
        ];
        read_failed = λ source. absurd (fine unfailed kept_source source);
        write_failed = λ output. absurd (true≢false (sym output ∙ out_same same));
        no_memory = λ three source other output whole. inr
            (answered answer is_answer (status_where_whole whole tells) nothing (told-text answer.told answer.status errors errors' result tells whole));
        unwritten = λ three output. keeps-same out out' same;
        unread = λ source. out_same same;
        front = λ output. absurd (true≢false (sym output ∙ out_same same));
        unflushed = λ three. ap (λ (s : SinkState). s.flushes) same;
        spared = spared;
      }
    where
      status_where_whole : {text : List ℕ} {status : Status} → errors'.failed ≡ false → Tells text status errors errors' result → result ≡ status
      status_where_whole whole (told wrote is) = is
      status_where_whole whole (untold broke is) = absurd (true≢false (sym broke.failed ∙ whole))

  -- a read failed, of the font or of the waivers
  after_failed_read : ReadFailed source texts → Spared → out' ≡ out
      → Tells (read_failed_line program) Failed errors errors' result
      → KeepsFacts
  after_failed_read broken spared same tells =
      let three : result ≡ Failed = told-failed (read_failed_line program) errors errors' result tells in
      record {
        answer = λ went. absurd (went three);
        flushed = λ either. absurd (never-report result either (inr three));
        untouched = λ two. same;
        nothing_waits = λ went. absurd (went three);
        broken = λ device. three;
        read_failed = λ source whole. told-text (read_failed_line program) Failed errors errors' result tells whole;
        write_failed = λ output. absurd (true≢false (sym output ∙ out_same same));
        no_memory = λ failure source other. absurd (elim broken [ inl is ↦ true≢false (sym is ∙ source) | inr is ↦ true≢false (sym is ∙ other) ]);
        unwritten = λ failure output. keeps-same out out' same;
        unread = λ source. out_same same;
        front = λ output. absurd (true≢false (sym output ∙ out_same same));
        unflushed = λ failure. ap (λ (s : SinkState). s.flushes) same;
        spared = spared;
      }

  after_no_memory : failed ≡ false → waivers'.failed ≡ waivers.failed → Spared → out' ≡ out
      → Tells (out_of_memory_line program) Failed errors errors' result
      → KeepsFacts
  after_no_memory unfailed kept_source spared same tells =
      let three : result ≡ Failed = told-failed (out_of_memory_line program) errors errors' result tells in
      record {
        answer = λ went. absurd (went three);
        flushed = λ either. absurd (never-report result either (inr three));
        untouched = λ two. same;
        nothing_waits = λ went. absurd (went three);
        broken = λ device. three;
        read_failed = λ source. absurd (fine unfailed kept_source source);
        write_failed = λ output. absurd (true≢false (sym output ∙ out_same same));
        no_memory = λ failure source other output whole. inl (told-text (out_of_memory_line program) Failed errors errors' result tells whole);
        unwritten = λ failure output. keeps-same out out' same;
        unread = λ source. out_same same;
        front = λ output. absurd (true≢false (sym output ∙ out_same same));
        unflushed = λ failure. ap (λ (s : SinkState). s.flushes) same;
        spared = spared;
      }

  -- the name that the options have
  shown_by : (font : FontValue) (waived : Result (List Waiver) Refusal) (answer : Answer) (trace name : Option (List ℕ)) → trace ≡ name
      → IsShown options font waived name answer → IsShown options font waived trace answer
  shown_by font waived answer trace name same is = subst (λ (n : Option (List ℕ)). IsShown options font waived n answer) (sym same) is

  after_shown : (font : FontValue) → AreRead left (Ok font) → failed ≡ false → (waived : List Waiver)
      → AreWaived options.edition (asks_waivers options) waivers.left (Ok waived) → IsHeard (asks_waivers options) waivers waivers'
      → Shows options font waived sinks.old sinks.new result
      → KeepsFacts
  after_shown font are unfailed waived is heard (was_reported none faults report gives) =
      let answer = reported font waived (selection options faults) in
      after_given answer (of-both answer (Ok font) (Ok waived) are is
      (shown_by font (Ok waived) answer _ None (ap (option_map string_bytes) none) (faults, (report, refl)))) unfailed heard.failed
      (spared_by font are unfailed heard.unasked) refl
      (list-not-refused (selection options faults)) (list-not-failed (selection options faults)) gives
  after_shown font are unfailed waived is heard (was_traced name named glyph there gives) =
      let answer : Answer = record { output = trace_of options.edition font glyph; told = []; status = Clean } in
      after_given answer (of-font answer (Ok font) are
      (λ any. shown_by font any answer _ (Some name) named (sym (ap (traced_at options.edition font name) there)))) unfailed
      heard.failed (spared_by font are unfailed heard.unasked) refl
      (λ two. cc) clean-failed gives
  after_shown font are unfailed waived is heard (no_glyph name named none same tells) =
      let answer : Answer = record { output = []; told = no_glyph_line program name; status = Failed } in
      after_told answer (of-font answer (Ok font) are
      (λ any. shown_by font any answer _ (Some name) named (sym (ap (traced_at options.edition font name) none)))) unfailed
      heard.failed (spared_by font are unfailed heard.unasked) refl
      (inr refl) same tells
  after_shown font are unfailed waived is heard (no_room none same tells) =
      after_no_memory unfailed heard.failed (spared_by font are unfailed heard.unasked) same tells

  after_font : (font : FontValue) → AreRead left (Ok font) → failed ≡ false → EndsWith checking options font texts sinks result
      → KeepsFacts
  after_font font are unfailed (shown waived is heard shows) = after_shown font are unfailed waived is heard shows
  after_font font are unfailed (waivers_refused reason is heard same tells) =
      let answer = refused (told_of reason) in
      let none : options.trace ≡ None = untraced string_bytes options.trace options.waive (refused_asked options.edition _ waivers.left reason is) in
      after_told answer (of-both answer (Ok font) (Err reason) are is (shown_by font (Err reason) answer _ None (ap (option_map string_bytes) none) refl))
      unfailed heard.failed
      (spared_by font are unfailed heard.unasked) refl (inl refl) same tells
  after_font font are unfailed (waivers_unread asked broken same tells) =
      after_failed_read (inr broken) (spared_by font are unfailed (λ unasked. absurd (true≢false (sym asked ∙ unasked)))) same tells
  after_font font are unfailed (no_waiver_room asked kept same tells) =
      after_no_memory unfailed kept (spared_by font are unfailed (λ unasked. absurd (true≢false (sym asked ∙ unasked)))) same tells

  after_refusal : (reason : Refusal) → AreRead left (Err reason) → failed ≡ false → waivers' ≡ waivers → out' ≡ out
      → Tells (told_of reason) (unread_status reason) errors errors' result
      → (unread_status reason ≡ Refused) ⊎ (failure_of reason ≡ failure.Memory) → KeepsFacts
  after_refusal reason are unfailed untouched same tells (inl two) =
      after_told (refused (told_of reason)) (of-font (refused (told_of reason)) (Err reason) are (λ waived. refl)) unfailed (same_failed untouched)
      (spared_whole untouched) refl (inl refl) same
      (subst (λ (s : Status). Tells (told_of reason) s errors errors' result) two tells)
  after_refusal reason are unfailed untouched same tells (inr memory) =
      after_no_memory unfailed (same_failed untouched) (spared_whole untouched) same
      (subst (λ (f : Failure). Tells (failure_line program f) (failure_status f) errors errors' result) memory tells)

-- a reason is a refusal, or memory ran out
kind_of : (code : Option RefusalCode) → (failure_status (refused_by code) ≡ Refused) ⊎ (refused_by code ≡ failure.Memory)
kind_of (Some code) = inl refl
kind_of None = inr refl

facts : (options : CheckOptions) (source texts : Transition SourceState) (sinks : Transition Sinks) (result : Status)
    → texts.old.failed ≡ false → sinks.old.out.failed ≡ false → sinks.old.errors.failed ≡ false → Ends checking options source texts sinks result
    → Facts options source texts sinks result
facts options source texts sinks result texts_sound sound errors_sound (font_read font are unfailed ends) =
    after_font options source texts sinks result texts_sound sound errors_sound font are unfailed ends
facts options source texts sinks result texts_sound sound errors_sound (font_refused reason are unfailed untouched same tells) =
    after_refusal options source texts sinks result texts_sound sound errors_sound reason are unfailed untouched same tells
    (kind_of (refusal_code_of reason))
facts options source texts sinks result texts_sound sound errors_sound (was_read_failed broken untouched same tells) =
    after_failed_read options source texts sinks result texts_sound sound errors_sound (inl broken)
    (spared_whole options source texts sinks result texts_sound sound errors_sound untouched) same tells
facts options source texts sinks result texts_sound sound errors_sound (was_no_memory unfailed untouched same tells) =
    after_no_memory options source texts sinks result texts_sound sound errors_sound unfailed (ap (λ (s : SourceState). s.failed) untouched)
    (spared_whole options source texts sinks result texts_sound sound errors_sound untouched) same tells

pub kept : RunsKeepPromises
kept options source texts sinks result texts_sound sound errors_sound ends =
    let f = facts options source texts sinks result texts_sound sound errors_sound ends in
    record {
      broken = f.broken;
      decided = λ went. record { answer = f.answer went; nothing_waits = f.nothing_waits went };
      reported = λ either. record { flushed = (f.flushed either).0; flushes = (f.flushed either).1 };
      untouched = f.untouched;
      failure = λ three. record {
        read_failed = f.read_failed;
        write_failed = f.write_failed;
        no_memory = f.no_memory three;
        unwritten = f.unwritten three;
        unread = f.unread;
        front = f.front;
        unflushed = f.unflushed three;
      };
      spared = f.spared;
    }
