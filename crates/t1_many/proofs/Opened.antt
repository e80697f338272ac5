-- Files that were opened, and how the check of their font ended.
use Rattle.std.proofs.Common.{◌≡◌, Bool, true, false, List, ℕ, Option, None, Some, Result, Ok, Err, refl, sym, subst, ◌∙◌}
use Rattle.std.proofs.lemmas.Option.{none-some}
use Rattle.t1_char.specs.declared.edition.Edition.{Edition}
use Rattle.t1_many.specs.Calls.{Calls}
use Rattle.t1_io.specs.Devices.{SourceState}
use Rattle.t1_many.specs.Files.{ChecksIn, Given, HasNoWaivers, IsFound, files_by}
use Rattle.t1_many.specs.Outcomes.{Entry, Outcome, failed, reported}
use Rattle.t1_many.specs.Private.Checking.{AsksWaivers, Checks, ChecksNamed, or_error}
use Rattle.t1_many.specs.Recipients.{recipient_by}
use Rattle.t1_many.specs.declared.font_files.WaiverFiles.{WaiverFiles}
use Rattle.t1_many.specs.declared.policy.Lost.{Lost}
use Rattle.t1_run.specs.declared.failure.Failure.{Failure}
use Rattle.t1_many.specs.FontErrors.{error_of}
use Rattle.t1_names.specs.declared.causes.Cause.{Cause}

-- by what was done to the files, however it ended
pub named_by : {R F T : Type 0} (takes : R → R → Entry → Option Lost → Type 0) (calls : Calls F) (beside : WaiverFiles) (edition : Edition)
    (name : List ℕ) (given : Given) (files files' : F) (a b : R) (result : Result (Result T Lost) Failure)
    → ((outcome : Outcome) → IsFound edition given outcome → ChecksIn (files_by calls beside files files') edition name outcome)
    → Checks (recipient_by takes a b) edition name given result
    → ChecksNamed (recipient_by takes a b) (files_by calls beside files files') edition name (or_error result)
named_by takes calls beside edition name given files files' a b (Ok taken) done (report, found, took) = (report, done (reported report) found, took)
named_by takes calls beside edition name given files files' a b (Err failure) done (found, same) = (done (failed (error_of failure)) found, same)

-- no waivers, as they weren't asked for or have no file
pub has_none : {F : Type 0} (calls : Calls F) (asked : Bool) (name : List ℕ) (old new : F) (opened : Option (Result SourceState Cause)) → opened ≡ None
    → AsksWaivers (recipient_by calls.OpensWaivers old new) asked name opened → HasNoWaivers calls asked name old new
has_none calls true name old new opened is asks = subst (calls.OpensWaivers old new name) is asks
has_none calls false name old new opened is (same, none) = same

-- waivers that have a file were asked for
pub was_asked : {F : Type 0} (calls : Calls F) (asked : Bool) (name : List ℕ) (old new : F) (opened : Option (Result SourceState Cause))
    (file : Result SourceState Cause) → opened ≡ Some file → AsksWaivers (recipient_by calls.OpensWaivers old new) asked name opened
    → (asked ≡ true) × calls.OpensWaivers old new name (Some file)
was_asked calls true name old new opened file is asks = (refl, subst (calls.OpensWaivers old new name) is asks)
was_asked calls false name old new opened file is (same, none) = absurd (none-some file (sym none ∙ is))
