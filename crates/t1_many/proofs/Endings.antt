-- How the check of a font ends, by what is known of its files.
use Rattle.std.proofs.Common.{◌≡◌, ◌||◌, ℕ, Bool, true, false, true≢false, List, Option, Result, Ok, Err, Some, inl, inr, refl, sym, ap, subst, ◌∙◌}
use Rattle.t1_font.specs.declared.unread.RefusalCode.TheVariants.{E05}
use Rattle.t1_char.specs.declared.edition.Edition.{Edition}
use Rattle.t1_font.specs.FontFiles.{IsUnread, font_in}
use Rattle.t1_font.specs.Fonts.{FontValue}
use Rattle.t1_font.specs.declared.unread.Unread.{Unread}
use Rattle.t1_io.specs.Devices.{SourceState, is_over}
use Rattle.t1_report.specs.Refusals.{Refusal}
use Rattle.t1_report.specs.Refusals.Refusal.{Font, FontTooLarge, Waivers, WaiversTooLarge}
use Rattle.t1_many.specs.Files.{Given, IsFound, given_by}
use Rattle.t1_many.specs.Files.IsFound.{breaks, breaks_waivers, no_memory, refused, reports, waivers_refused}
use Rattle.t1_many.specs.Handing.{lost_of}
use Rattle.t1_many.specs.Outcomes.{Entry, Outcome, failed, reported}
use Rattle.t1_many.specs.Private.Checking.{Checks, of_bytes, of_font, of_text}
use Rattle.t1_many.specs.Recipients.{recipient_by}
use Rattle.t1_many.specs.declared.policy.Lost.{Lost}
use Rattle.t1_report.specs.Checked.{checked}
use Rattle.t1_report.specs.Faults.{FaultValue}
use Rattle.t1_report.specs.WaiverViews.{IsReadAs}
use Rattle.t1_report.specs.Waivers.{Waiver, waivers_of}
use Rattle.t1_report.specs.declared.waivers.WaiverError.{WaiverError}
use Rattle.t1_report.specs.declared.waivers.WaiverError.TheVariants.{Malformed, Memory}
use Rattle.t1_run.proofs.FilesRead.{are_read, font_past}
use Rattle.t1_run.specs.Failures.{failure_of}
use Rattle.t1_run.specs.FontFiles.{AreRead, with_reason}
use Rattle.t1_run.specs.Input.{AreAll, AreUnread}
use Rattle.t1_run.specs.Input.StopsAt.{past_limit, the_end}
use Rattle.t1_run.specs.Input.AreUnread.{too_large as past, read_failed as broken, no_memory as unroomed}
use Rattle.t1_run.specs.WaiverFiles.{AreWaived, IsNoWaiverText, IsWaiverText, as_waivers}
use Rattle.t1_run.specs.WaiverFiles.IsNoWaiverText.{too_large, read_failed, no_memory as no_room}
use Rattle.t1_run.specs.declared.failure.Failure.{Failure}
use Rattle.t1_many.specs.FontErrors.{error_of}
use Rattle.t1_report.specs.Reports.{IsReport}
use Rattle.std.specs.Result.{IsErrAnd}

abbrev ended : Failure → Outcome
ended failure = failed (error_of failure)

-- ---- what is known more widely

-- All that one of them knows, the other does.
pub record Widens (given wider : Given) : Type 0 where
  pub reads : (read : Result FontValue Refusal) → given.Reads read → wider.Reads read
  pub breaks : given.Breaks → wider.Breaks
  pub waives : (waived : Result (List Waiver) Refusal) → given.Waives waived → wider.Waives waived
  pub breaks_waivers : given.BreaksWaivers → wider.BreaksWaivers

found_by : (edition : Edition) (given wider : Given) (outcome : Outcome) → Widens given wider → IsFound edition given outcome
    → IsFound edition wider outcome
found_by edition given wider outcome on (reports report read waived edition_is is same) =
    reports report (on.reads _ read) (on.waives _ waived) edition_is is same
found_by edition given wider outcome on (refused reason read same) = refused reason (on.reads _ read) same
found_by edition given wider outcome on (waivers_refused font read reason waived same) =
    waivers_refused font (on.reads _ read) reason (on.waives _ waived) same
found_by edition given wider outcome on (breaks broke same) = breaks (on.breaks broke) same
found_by edition given wider outcome on (breaks_waivers font read broke same) =
    breaks_waivers font (on.reads _ read) (on.breaks_waivers broke) same
found_by edition given wider outcome on (no_memory same) = no_memory same

module _ {R T : Type 0} (takes : R → R → Entry → Option Lost → Type 0) (edition : Edition) (name : List ℕ) where
  pub checks_by : (given wider : Given) (a b : R) (result : Result (Result T Lost) Failure) → Widens given wider
      → Checks (recipient_by takes a b) edition name given result → Checks (recipient_by takes a b) edition name wider result
  checks_by given wider a b (Ok taken) on (report, found, took) = (report, found_by edition given wider (reported report) on found, took)
  checks_by given wider a b (Err failure) on (found, same) = (found_by edition given wider (ended failure) on found, same)

  -- the exit of a `?` at which nothing was done
  pub not_found : (given : Given) (a b : R) (result : Result (Result T Lost) Failure) (failure : Failure)
      → IsErrAnd result (λ f. f ≡ failure) → b ≡ a → IsFound edition given (ended failure)
      → Checks (recipient_by takes a b) edition name given result
  not_found given a b (Ok taken) failure is same found = absurd is
  not_found given a b (Err f) failure is same found =
      (subst (λ (f : Failure). IsFound edition given (ended f)) (sym is) found, same)

  -- a report that was taken
  pub text_taken : (font : FontValue) (text : List ℕ) (waivers : List Waiver) (of : Edition) (a b : R) (taken : Result T Lost)
      → of ≡ edition → waivers_of edition text ≡ Some waivers → (faults : List FaultValue) × IsReport (checked font of) waivers faults
      × takes a b (record { name = name; outcome = reported (record { font = font; edition = of; waivers = waivers; faults = faults }) }) (lost_of taken)
      → Checks (recipient_by takes a b) edition name (of_text edition font text) (Ok taken)
  text_taken font text waivers of a b taken same read (faults, is, took) = (
    record { font = font; edition = of; waivers = waivers; faults = faults },
    reports (record { font = font; edition = of; waivers = waivers; faults = faults }) refl (ap as_waivers read) same
        (subst (λ (e : Edition). IsReport (checked font e) waivers faults) same is) refl,
    took,
  )

-- ---- the text of waivers

pub text_unread : {W : Type 0} (value : W → List Waiver) (edition : Edition) (font : FontValue) (text : List ℕ) (error : WaiverError)
    → IsReadAs value (waivers_of edition text) (Err error) → IsFound edition (of_text edition font text) (ended (failure_of (Waivers error)))
text_unread value edition font text Malformed none = waivers_refused font refl (Waivers Malformed) (ap as_waivers none) refl
text_unread value edition font text Memory any = no_memory refl

-- ---- its file

neither-left : (failed ended : Bool) → (failed || ended) ≡ false → failed ≡ false
neither-left true ended is = absurd (true≢false is)
neither-left false ended is = refl

-- a source of which no call has failed or found the end has not failed
pub not_failed : (source : SourceState) → is_over source ≡ false → source.failed ≡ false
not_failed source going = neither-left source.failed source.ended going

pub file_unread : (edition : Edition) (font : FontValue) (asked : Bool) (old new : SourceState) (failure : Failure)
    → IsNoWaiverText asked old new failure → IsFound edition (of_font edition font asked old new) (ended failure)
file_unread edition font asked old new failure (too_large waived heard is) =
    waivers_refused font refl WaiversTooLarge (waived edition, heard) (ap ended is)
file_unread edition font asked old new failure (read_failed is_asked broke is) = breaks_waivers font refl (is_asked, broke) (ap ended is)
file_unread edition font asked old new failure (no_room kept is) = no_memory (ap ended is)

pub text_of_file : (edition : Edition) (font : FontValue) (asked : Bool) (old new : SourceState) (text : List ℕ) → IsWaiverText asked old new text
    → Widens (of_text edition font text) (of_font edition font asked old new)
text_of_file edition font asked old new text is = record {
  reads = λ read same. same;
  breaks = λ never. never;
  waives = λ waived same. (subst (λ (w : Result (List Waiver) Refusal). AreWaived edition asked old.left w) same (is.read edition), is.heard);
  breaks_waivers = λ never. absurd never;
}

-- ---- the bytes of a font

pub bytes_unread : (edition : Edition) (bytes : List ℕ) (asked : Bool) (old new : SourceState) (unread : Unread)
    → IsUnread unread (font_in bytes) → IsFound edition (of_bytes edition bytes asked old new) (ended (failure_of (Font unread)))
bytes_unread edition bytes asked old new unread (inl memory) = no_memory (ap (λ (u : Unread). ended (failure_of (Font u))) memory)
bytes_unread edition bytes asked old new unread (inr is) = refused (Font unread) (ap with_reason is) refl

pub font_of_bytes : (edition : Edition) (font : FontValue) (bytes : List ℕ) (asked : Bool) (old new : SourceState) → font_in bytes ≡ Ok font
    → Widens (of_font edition font asked old new) (of_bytes edition bytes asked old new)
font_of_bytes edition font bytes asked old new is = record {
  reads = λ read same. ap with_reason is ∙ sym same;
  breaks = λ never. never;
  waives = λ waived heard. heard;
  breaks_waivers = λ broke. broke;
}

-- ---- its file

pub font_unread : (edition : Edition) (source source' : SourceState) (asked : Bool) (old new : SourceState) (failure : Failure)
    → source.failed ≡ false → AreUnread 16777216 E05 source source' failure
    → IsFound edition (given_by edition source source' asked old new) (ended failure)
font_unread edition source source' asked old new failure sound (past bytes consumed large kept is) =
    refused FontTooLarge (font_past source.left source'.left bytes consumed large, kept ∙ sound, past_limit bytes consumed large) (ap ended is)
font_unread edition source source' asked old new failure sound (broken broke is) = breaks broke (ap ended is)
font_unread edition source source' asked old new failure sound (unroomed kept is) = no_memory (ap ended is)

pub bytes_of_file : (edition : Edition) (source source' : SourceState) (bytes : List ℕ) (asked : Bool) (old new : SourceState) → source.failed ≡ false
    → AreAll 16777216 source source' bytes → Widens (of_bytes edition bytes asked old new) (given_by edition source source' asked old new)
bytes_of_file edition source source' bytes asked old new sound all = record {
  reads = λ read same. (
    subst (AreRead source.left) same (are_read source.left source'.left bytes (font_in bytes) all.consumed all.end all.few refl),
    all.kept ∙ sound,
    the_end all.end,
  );
  breaks = λ never. absurd never;
  waives = λ waived heard. heard;
  breaks_waivers = λ broke. broke;
}
