-- A text of waivers, which may be too large, and what is done to its source where it is requested.
use Rattle.std.specs.Prelude.{◌≡◌, ◌≤◌, ℕ, Bool, true, false, nat_lt, if◌then◌else◌, List, [], length, Option, None, Some, Result, Ok, Err}
use Rattle.t1_char.specs.declared.edition.Edition.{Edition}
use Rattle.t1_io.specs.Devices.{SourceState}
use Rattle.t1_report.specs.Refusals.{Refusal}
use Rattle.t1_report.specs.Refusals.Refusal.{Waivers, WaiversTooLarge}
use Rattle.t1_report.specs.Waivers.{Waiver, waivers_of, largest_waivers}
use Rattle.t1_report.specs.declared.waivers.WaiverError.TheVariants.{Malformed}
use Rattle.t1_run.specs.Failures.{failure_of}
use Rattle.t1_run.specs.Input.{StopsAt}
use Rattle.t1_run.specs.declared.failure.Failure.{Failure}
use Rattle.t1_run.specs.declared.failure.Failure.TheVariants.{Broken, Memory}

abbrev pub as_waivers : Option (List Waiver) → Result (List Waiver) Refusal
as_waivers None = Err (Waivers Malformed)
as_waivers (Some waivers) = Ok waivers

-- The waivers that a text is read as in an edition, or the one reason why it isn't: its size comes first.
unfoldable pub waivers_in : Edition → List ℕ → Result (List Waiver) Refusal
waivers_in edition text =
    if nat_lt largest_waivers (length text) then Err WaiversTooLarge else as_waivers (waivers_of edition text)

-- It is so of what the waivers are read as: of none where they aren't requested, else of those of the text, where it is
-- known.
abbrev pub IfWaived : Edition → Bool → Option (List ℕ) → (Result (List Waiver) Refusal → Type 0) → Type 0
IfWaived edition false text P = P (Ok [])
IfWaived edition true None P = Unit {0}
IfWaived edition true (Some text) P = P (waivers_in edition text)

-- The waivers are read so.
abbrev pub AreWaived : Edition → Bool → Option (List ℕ) → Result (List Waiver) Refusal → Type 0
AreWaived edition asked text waived = IfWaived edition asked text (λ read. read ≡ waived)

-- No read of the source of waivers failed, and it is as it was unless they are requested.
pub record IsUnbroken (asked : Bool) (old new : SourceState) : Type 0 where
  pub unasked : asked ≡ false → new ≡ old
  pub failed : new.failed ≡ old.failed

-- And where they are requested it was read to its end, or past the limit of their text.
pub record IsHeard (asked : Bool) (old new : SourceState) : Type 0 where
  pub unasked : asked ≡ false → new ≡ old
  pub failed : new.failed ≡ old.failed
  pub whole : asked ≡ true → StopsAt largest_waivers old new ⊥

-- The text of waivers, few enough bytes, or none where none are requested: by each edition it is what they are read from.
pub record IsWaiverText (asked : Bool) (old new : SourceState) (text : List ℕ) : Type 0 where
  pub few : length text ≤ largest_waivers
  pub read : (edition : Edition) → AreWaived edition asked old.left (as_waivers (waivers_of edition text))
  pub heard : IsHeard asked old new

-- Why there is none.
pub data IsNoWaiverText (asked : Bool) (old new : SourceState) (failure : Failure) : Type 0 where
  too_large :
      ((edition : Edition) → AreWaived edition asked old.left (Err WaiversTooLarge)) → IsHeard asked old new → failure ≡ failure_of WaiversTooLarge
      → IsNoWaiverText asked old new failure
  read_failed : asked ≡ true → new.failed ≡ true → failure ≡ Broken → IsNoWaiverText asked old new failure
  no_memory : IsUnbroken asked old new → failure ≡ Memory → IsNoWaiverText asked old new failure
