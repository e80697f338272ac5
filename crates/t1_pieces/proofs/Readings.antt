-- What the bytes of a font and of waivers are read as, and why they aren't.
use Rattle.std.proofs.Common.{◌≡◌, ◌∙◌, ◌<◌, ◌≤◌, ℕ, nat_lt, true, false, List, Option, None, Some, Result, Ok, Err, IfErr, IfOk, IsOkAnd, OnErr, length, inl, inr, ap, arith, refl, subst, sym}
use Rattle.std.proofs.lemmas.Bool.Decides.{nat_tests}
use Rattle.std.specs.Prelude.{⊤}
use Rattle.std.specs.Result.{IsErrAnd}
use Rattle.t1_char.specs.declared.edition.Edition.{Edition}
use Rattle.t1_font.specs.FontFiles.{IsUnread, font_in}
use Rattle.t1_font.specs.Fonts.{FontValue}
use Rattle.t1_font.specs.declared.unread.Unread.{Unread}
use Rattle.t1_report.specs.Refusals.{refusal_code_of, Refusal}
use Rattle.t1_report.specs.Refusals.Refusal.{Font, Waivers, WaiversTooLarge}
use Rattle.t1_font.specs.declared.unread.RefusalCode.{RefusalCode}
use Rattle.t1_report.specs.WaiverViews.{IsReadAs}
use Rattle.t1_report.specs.Waivers.{Waiver, waivers_of}
use Rattle.t1_report.specs.declared.waivers.WaiverError.{WaiverError}
use Rattle.t1_report.specs.declared.waivers.WaiverError.TheVariants as errors
use Rattle.t1_run.proofs.FilesRead.{font_of-small}
use Rattle.t1_run.specs.Failures.{failure_of, refused_by}
use Rattle.t1_run.specs.FontFiles.{font_of, with_reason}
use Rattle.t1_run.specs.WaiverFiles.{as_waivers, waivers_in}
use Rattle.t1_run.specs.declared.failure.Failure.{Failure}
use Rattle.t1_run.specs.declared.failure.Failure.TheVariants.{Broken, Memory, Refused}
use Rattle.t1_pieces.specs.Pieces.{IsFailedBy, IsHanded}
use Rattle.t1_pieces.specs.Pieces.IsHanded.{made, no_memory, refused}
use Rattle.t1_pieces.specs.Reading.{IsFailureOf}
use Rattle.t1_pieces.specs.declared.piece.Piece.{Piece}

-- ---- failures

-- A `?` that failed.
pub failed_so : {X : Type 0} (result : Result X Failure) (failure : Failure) (P : Failure → Type 0) → IsErrAnd result (λ f. f ≡ failure)
    → P failure → IfErr result P
failed_so (Ok x) failure P is holds = absurd is
failed_so (Err f) failure P is holds = subst P (sym is) holds

pub by_memory : {A : Type 0} (read : Result A Refusal) (failure : Failure) → failure ≡ Memory → IsFailureOf read failure
by_memory (Ok value) failure is = is
by_memory (Err reason) failure is = inr is

pub fails_for : {A : Type 0} (read : Result A Refusal) (reason : Refusal) (failure : Failure) → read ≡ Err reason → failure ≡ failure_of reason
    → IsFailureOf read failure
fails_for {A} read reason failure is so = subst (λ (r : Result A Refusal). IsFailureOf r failure) (sym is) (inl so)

-- ---- a font

pub unread_fails : (read : Result FontValue Unread) (unread : Unread) → IsUnread unread read
    → IsFailureOf (with_reason read) (failure_of (Font unread))
unread_fails read unread (inl memory) = by_memory (with_reason read) (failure_of (Font unread)) (ap (λ (u : Unread). failure_of (Font u)) memory)
unread_fails read unread (inr is) = fails_for (with_reason read) (Font unread) (failure_of (Font unread)) (ap with_reason is) refl

pub font_fails : (bytes : List ℕ) (unread : Unread) → length bytes ≤ 16777216 → IsUnread unread (font_in bytes)
    → IsFailureOf (font_of bytes) (failure_of (Font unread))
font_fails bytes unread small is =
    subst (λ (r : Result FontValue Refusal). IsFailureOf r (failure_of (Font unread))) (sym (font_of-small bytes small))
    (unread_fails (font_in bytes) unread is)

-- ---- waivers

waivers_in-small : (edition : Edition) (text : List ℕ) → length text ≤ 1048576 → waivers_in edition text ≡ as_waivers (waivers_of edition text)
unfolding waivers_in
waivers_in-small edition text small =
    let fits : nat_lt 1048576 (length text) ≡ false = grind (arith, nat_tests) in
    rw fits refl

pub waivers_in-large : (edition : Edition) (text : List ℕ) → 1048576 < length text → waivers_in edition text ≡ Err WaiversTooLarge
unfolding waivers_in
waivers_in-large edition text large =
    let exceeds : nat_lt 1048576 (length text) ≡ true = grind (arith, nat_tests) in
    rw exceeds refl

pub waivers_read : (edition : Edition) (text : List ℕ) (waivers : List Waiver) → length text ≤ 1048576 → waivers_of edition text ≡ Some waivers → waivers_in edition text ≡ Ok waivers
waivers_read edition text waivers small is = waivers_in-small edition text small ∙ ap as_waivers is

pub waivers_fail : (edition : Edition) {W : Type 0} (value : W → List Waiver) (text : List ℕ) (error : WaiverError) → length text ≤ 1048576
    → IsReadAs value (waivers_of edition text) (Err error) → IsFailureOf (waivers_in edition text) (failure_of (Waivers error))
waivers_fail edition value text errors.Malformed small none =
    fails_for (waivers_in edition text) (Waivers errors.Malformed) (failure_of (Waivers errors.Malformed))
    (waivers_in-small edition text small ∙ ap as_waivers none) refl
waivers_fail edition value text errors.Memory small any = by_memory (waivers_in edition text) (failure_of (Waivers errors.Memory)) refl

-- ---- what is handed over

by_code : (code : RefusalCode) (found : Option RefusalCode) → refused_by found ≡ Refused code → found ≡ Some code
by_code code None is = cc
by_code code (Some c) is = cc

coded : (reason : Refusal) (code : RefusalCode) → failure_of reason ≡ Refused code → refusal_code_of reason ≡ Some code
coded reason code is = by_code code (refusal_code_of reason) is

never : (code : RefusalCode) → Refused code ≡ Memory → ⊥
never code is = cc

failed : {A : Type 0} (IsMade : A → List ℕ → Piece → Type 0) (Stays : Type 0) (read : Result A Refusal) (failure : Failure) (room : List ℕ)
    (piece : Piece) → IsFailureOf read failure → Stays → IsFailedBy failure room piece → IsHanded IsMade Stays read room piece
failed IsMade Stays (Err reason) (Refused code) room piece (inl so) stays by = refused reason code refl (coded reason code (sym so)) by stays
failed IsMade Stays (Err reason) (Refused code) room piece (inr memory) stays by = absurd (never code memory)
failed IsMade Stays (Ok value) (Refused code) room piece memory stays by = absurd (never code memory)
failed IsMade Stays read Broken room piece fails stays by = no_memory by stays
failed IsMade Stays read Memory room piece fails stays by = no_memory by stays

-- What was made of what was read, or why nothing was, is handed over.
pub is_handed : {A : Type 0} (IsMade : A → List ℕ → Piece → Type 0) (Stays : Type 0) (read : Result A Refusal) (handed : Result Piece Failure)
    (room room' : List ℕ) (piece : Piece) → IfOk handed (λ p. IsOkAnd read (λ value. IsMade value room p)) → IfErr handed (IsFailureOf read)
    → OnErr handed Stays → IfOk handed (λ p. (piece ≡ p) × (room' ≡ room)) → IfErr handed (λ failure. IsFailedBy failure room' piece)
    → IsHanded IsMade Stays read room' piece
is_handed IsMade Stays (Ok value) (Ok p) room room' piece is fails stays (same, kept) by =
    made value refl (subst (λ (r : List ℕ). IsMade value r piece) (sym kept) (subst (λ (q : Piece). IsMade value room q) (sym same) is))
is_handed IsMade Stays (Err reason) (Ok p) room room' piece is fails stays over by = absurd is
is_handed IsMade Stays read (Err failure) room room' piece is fails stays over by = failed IsMade Stays read failure room' piece fails stays by

-- Nothing has to stay.
pub nothing_stays : (handed : Result Piece Failure) → OnErr handed ⊤
nothing_stays (Ok piece) = tt
nothing_stays (Err failure) = tt
