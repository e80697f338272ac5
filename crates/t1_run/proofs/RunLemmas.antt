-- How a run ends, given what its files are read as.
use Rattle.std.proofs.Common.{◌≡◌, ◌∙◌, ℕ, Bool, true, false, List, [], Some, Result, Ok, Err, inl, inr, ap, refl, subst, sym}
use Rattle.t1_font.specs.declared.unread.RefusalCode.TheVariants.{E05}
use Rattle.t1_font.specs.FontFiles.{IsUnread, font_in}
use Rattle.t1_font.specs.Fonts.{FontValue}
use Rattle.t1_font.specs.declared.unread.Unread.{Unread}
use Rattle.t1_io.specs.Devices.{SinkState, SourceState}
use Rattle.t1_report.specs.Refusals.{Refusal}
use Rattle.t1_report.specs.Refusals.Refusal.{Font, FontTooLarge, Waivers, WaiversTooLarge}
use Rattle.t1_report.specs.WaiverViews.{IsReadAs}
use Rattle.t1_report.specs.Waivers.{Waiver, waivers_of}
use Rattle.t1_report.specs.declared.waivers.WaiverError.{WaiverError}
use Rattle.t1_report.specs.declared.waivers.WaiverError.TheVariants.{Malformed, Memory}
use Rattle.t1_run.specs.Failures.{failure_line, failure_of, failure_status, out_of_memory_line}
use Rattle.t1_run.specs.Input.{AreAll, AreUnread, StopsAt}
use Rattle.t1_run.specs.Input.AreUnread.{too_large, read_failed as broken, no_memory as unroomed}
use Rattle.t1_run.specs.Input.StopsAt.{failure as fails, no_memory as runs_out, past_limit}
use Rattle.t1_run.specs.Opening.{Sinks, Transition}
use Rattle.t1_run.specs.Programs.{Ends, EndsWith, Meaning, asks_waivers}
use Rattle.t1_run.specs.Programs.Ends.{font_refused, no_memory, read_failed}
use Rattle.t1_run.specs.Programs.EndsWith.{no_room, shown, waivers_refused, waivers_unread}
use Rattle.t1_run.specs.Telling.{Tells}
use Rattle.t1_run.specs.WaiverFiles.{AreWaived, IsHeard, IsNoWaiverText, IsWaiverText, as_waivers}
use Rattle.t1_run.specs.WaiverFiles.IsNoWaiverText.{no_memory as no_text, read_failed as unread_text, too_large as large_text}
use Rattle.t1_run.specs.declared.failure.Failure.{Failure}
use Rattle.t1_run.specs.declared.status.Status.{Status}
use Rattle.t1_run.specs.declared.status.Status.TheVariants as status
use Rattle.t1_run.proofs.FilesRead.{are_read, font_past, not_asked}

-- ---- the font

module _ {Options : Type 0} (program : Meaning Options) (options : Options) (font : Transition SourceState) (waivers : SourceState)
    (sinks : Transition Sinks) (result : Status) (sound : font.old.failed ≡ false) (same : sinks.new.out ≡ sinks.old.out) where
  abbrev Failing : Failure → Type 0
  Failing failure = Tells (failure_line program.name failure) (failure_status failure) sinks.old.errors sinks.new.errors result

  abbrev EndsUnread : Type 0
  EndsUnread = Ends program options font (record { old = waivers; new = waivers }) sinks result

  -- A file that isn't read to its end.
  pub ungathered_ends : (failure : Failure) → AreUnread 16777216 E05 font.old font.new failure → Failing failure → EndsUnread
  ungathered_ends failure (too_large bytes consumed large kept is) tells =
      font_refused FontTooLarge (font_past font.old.left font.new.left bytes consumed large) (kept ∙ sound) refl same (rw is at tells)
  ungathered_ends failure (broken failed is) tells = read_failed failed refl same (rw is at tells)
  ungathered_ends failure (unroomed kept is) tells = no_memory (kept ∙ sound) refl same (rw is at tells)

  -- Bytes that aren't read as a font, or memory ran out.
  pub unread_ends : (bytes : List ℕ) (unread : Unread) → AreAll 16777216 font.old font.new bytes → IsUnread unread (font_in bytes)
      → Failing (failure_of (Font unread)) → EndsUnread
  unread_ends bytes unread all (inl memory) tells =
      no_memory (all.kept ∙ sound) refl same (subst (λ (u : Unread). Failing (failure_of (Font u))) memory tells)
  unread_ends bytes unread all (inr read) tells =
      font_refused (Font unread) (are_read font.old.left font.new.left bytes (Err unread) all.consumed all.end all.few read) (all.kept ∙ sound) refl
      same tells

-- Where its reading stopped.
pub ungathered_stops : (name : List ℕ) (old new : SourceState) (errors errors' : SinkState) (failure : Failure) (result : Status)
    → AreUnread 16777216 E05 old new failure → Tells (failure_line name failure) (failure_status failure) errors errors' result
    → StopsAt 16777216 old new (Tells (out_of_memory_line name) status.Failed errors errors' result)
ungathered_stops name old new errors errors' failure result (too_large bytes consumed large kept is) tells = past_limit bytes consumed large
ungathered_stops name old new errors errors' failure result (broken failed is) tells = fails failed
ungathered_stops name old new errors errors' failure result (unroomed kept is) tells = runs_out (rw is at tells)

-- ---- the waivers

module _ {Options : Type 0} (program : Meaning Options) (options : Options) (font : FontValue) (waivers : Transition SourceState)
    (sinks : Transition Sinks) (result : Status) where
  abbrev EndsSo : Type 0
  EndsSo = EndsWith program options font waivers sinks result

  -- None are requested.
  pub unasked_ends : asks_waivers program options ≡ false → waivers.new ≡ waivers.old → program.Shows options font [] sinks.old sinks.new result
      → EndsSo
  unasked_ends unasked same shows =
      shown [] (subst (λ (b : Bool). AreWaived (program.edition options) b waivers.old.left (Ok [])) (sym unasked) refl)
      (subst (λ (b : Bool). IsHeard b waivers.old waivers.new) (sym unasked)
      (subst (IsHeard false waivers.old) (sym same) (not_asked waivers.old))) shows

  module _ (asked : asks_waivers program options ≡ true) where
    heard_as : IsHeard true waivers.old waivers.new → IsHeard (asks_waivers program options) waivers.old waivers.new
    heard_as heard = subst (λ (b : Bool). IsHeard b waivers.old waivers.new) (sym asked) heard

    waived_as : (waived : Result (List Waiver) Refusal) → AreWaived (program.edition options) true waivers.old.left waived
        → AreWaived (program.edition options) (asks_waivers program options) waivers.old.left waived
    waived_as waived are = subst (λ (b : Bool). AreWaived (program.edition options) b waivers.old.left waived) (sym asked) are

    -- Their text can't be had.
    pub untold_ends : (failure : Failure) → IsNoWaiverText true waivers.old waivers.new failure → sinks.new.out ≡ sinks.old.out
        → Tells (failure_line program.name failure) (failure_status failure) sinks.old.errors sinks.new.errors result → EndsSo
    untold_ends failure (large_text waived heard is) same tells =
        waivers_refused WaiversTooLarge (waived_as _ (waived (program.edition options))) (heard_as heard) same (rw is at tells)
    untold_ends failure (unread_text was failed is) same tells = waivers_unread asked failed same (rw is at tells)
    untold_ends failure (no_text kept is) same tells = no_room asked kept.failed same (rw is at tells)

    -- Their text is read as waivers.
    pub waived_ends : (text : List ℕ) (waived : List Waiver) → IsWaiverText true waivers.old waivers.new text
        → waivers_of (program.edition options) text ≡ Some waived → program.Shows options font waived sinks.old sinks.new result → EndsSo
    waived_ends text waived had read shows =
        shown waived (waived_as _ (subst (AreWaived (program.edition options) true waivers.old.left) (ap as_waivers read) (had.read (program.edition options)))) (heard_as had.heard) shows

    -- It isn't, or memory ran out.
    pub unwaived_ends : {W : Type 0} (value : W → List Waiver) (text : List ℕ) (error : WaiverError) → IsWaiverText true waivers.old waivers.new text
        → IsReadAs value (waivers_of (program.edition options) text) (Err error) → sinks.new.out ≡ sinks.old.out
        → Tells (failure_line program.name (failure_of (Waivers error))) (failure_status (failure_of (Waivers error))) sinks.old.errors
        sinks.new.errors result → EndsSo
    unwaived_ends value text Malformed had none same tells =
        waivers_refused (Waivers Malformed) (waived_as _ (subst (AreWaived (program.edition options) true waivers.old.left) (ap as_waivers none) (had.read (program.edition options)))) (heard_as had.heard)
        same tells
    unwaived_ends value text Memory had any same tells = no_room asked had.heard.failed same tells
