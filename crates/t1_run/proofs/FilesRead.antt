-- What the bytes of a file are read as.
use Rattle.std.proofs.Common.{◌≡◌, ℕ, ◌<◌, ◌≤◌, nat_lt, Bool, true, false, true≢false, List, [], ◌++◌, Option, None, Some, Result, Ok, Err, length, refl, sym, ap, subst, ◌∙◌, arith, append-nil, length-append}
use Rattle.std.proofs.lemmas.Bool.Decides.{nat_tests}
use Rattle.std.specs.Io.KnownBytes.{Consumes, IsAtEnd}
use Rattle.t1_font.specs.declared.unread.RefusalCode.TheVariants.{E15}
use Rattle.t1_char.specs.declared.edition.Edition.{Edition}
use Rattle.t1_font.specs.FontFiles.{font_in}
use Rattle.t1_font.specs.Fonts.{FontValue}
use Rattle.t1_font.specs.declared.unread.Unread.{Unread}
use Rattle.t1_io.specs.Devices.{SourceState}
use Rattle.t1_report.specs.Refusals.{Refusal}
use Rattle.t1_report.specs.Refusals.Refusal.{FontTooLarge, WaiversTooLarge}
use Rattle.t1_report.specs.Waivers.{Waiver, lines_from, lines_read, waivers_of}
use Rattle.t1_run.specs.FontFiles.{AreRead, font_of, with_reason}
use Rattle.t1_run.specs.Input.{AreAll, AreUnread, StopsAt}
use Rattle.t1_run.specs.Input.AreUnread.{too_large as past, read_failed as broken, no_memory as unroomed}
use Rattle.t1_run.specs.Input.StopsAt.{past_limit, the_end}
use Rattle.t1_run.specs.WaiverFiles.{AreWaived, IfWaived, IsHeard, IsNoWaiverText, IsWaiverText, as_waivers, waivers_in}
use Rattle.t1_run.specs.WaiverFiles.IsNoWaiverText.{too_large, read_failed, no_memory}
use Rattle.t1_run.specs.declared.failure.Failure.{Failure}

-- ---- a font's file

pub font_of-small : (input : List ℕ) → length input ≤ 16777216 → font_of input ≡ with_reason (font_in input)
unfolding font_of
font_of-small input small =
    let fits : nat_lt 16777216 (length input) ≡ false = grind (arith, nat_tests) in
    rw fits refl

pub font_of-large : (input : List ℕ) → 16777216 < length input → font_of input ≡ Err FontTooLarge
unfolding font_of
font_of-large input large =
    let exceeds : nat_lt 16777216 (length input) ≡ true = grind (arith, nat_tests) in
    rw exceeds refl

-- all the bytes of a source, few enough
pub are_read : (old new : Option (List ℕ)) (bytes : List ℕ) (read : Result FontValue Unread) → Consumes old new bytes → IsAtEnd new → length bytes ≤ 16777216
    → font_in bytes ≡ read → AreRead old (with_reason read)
are_read None new bytes read consumed end small is = tt
are_read (Some input) None bytes read consumed end small is = absurd consumed
are_read (Some input) (Some rest) bytes read consumed end small is =
    let same : input ≡ bytes = consumed ∙ ap (λ l. bytes ++ l) end ∙ append-nil bytes in
    ap font_of same ∙ font_of-small bytes small ∙ ap with_reason is

-- too many bytes of a source
pub font_past : (old new : Option (List ℕ)) (bytes : List ℕ) → Consumes old new bytes → 16777216 < length bytes → AreRead old (Err FontTooLarge)
font_past None new bytes consumed large = tt
font_past (Some input) None bytes consumed large = absurd consumed
font_past (Some input) (Some rest) bytes consumed large = font_of-large input (omega (arith, ap length consumed, length-append bytes rest))

-- ---- a text of waivers

waivers_in-small : (edition : Edition) (text : List ℕ) → length text ≤ 1048576 → waivers_in edition text ≡ as_waivers (waivers_of edition text)
unfolding waivers_in
waivers_in-small edition text small =
    let fits : nat_lt 1048576 (length text) ≡ false = grind (arith, nat_tests) in
    rw fits refl

waivers_in-large : (edition : Edition) (text : List ℕ) → 1048576 < length text → waivers_in edition text ≡ Err WaiversTooLarge
unfolding waivers_in
waivers_in-large edition text large =
    let exceeds : nat_lt 1048576 (length text) ≡ true = grind (arith, nat_tests) in
    rw exceeds refl

-- All of a text, few enough bytes.
pub text_is : (edition : Edition) (old new : Option (List ℕ)) (bytes : List ℕ) → Consumes old new bytes → IsAtEnd new → length bytes ≤ 1048576
    → AreWaived edition true old (as_waivers (waivers_of edition bytes))
text_is edition None new bytes consumed end small = tt
text_is edition (Some input) None bytes consumed end small = absurd consumed
text_is edition (Some input) (Some rest) bytes consumed end small =
    let same : input ≡ bytes = consumed ∙ ap (λ l. bytes ++ l) end ∙ append-nil bytes in
    ap (waivers_in edition) same ∙ waivers_in-small edition bytes small

-- Too many bytes.
pub text_past : (edition : Edition) (old new : Option (List ℕ)) (bytes : List ℕ) → Consumes old new bytes → 1048576 < length bytes → AreWaived edition true old (Err WaiversTooLarge)
text_past edition None new bytes consumed large = tt
text_past edition (Some input) None bytes consumed large = absurd consumed
text_past edition (Some input) (Some rest) bytes consumed large = waivers_in-large edition input (omega (arith, ap length consumed, length-append bytes rest))

-- An empty text has no waivers.
pub no_text : (edition : Edition) → Ok [] ≡ as_waivers (waivers_of edition [])
unfolding lines_from lines_read
no_text edition = refl

-- A source that is read.
pub was_asked : (old new : SourceState) → new.failed ≡ old.failed → StopsAt 1048576 old new ⊥ → IsHeard true old new
was_asked old new kept whole = record { unasked = λ unasked. absurd (true≢false unasked); failed = kept; whole = λ asked. whole }

pub not_asked : (old : SourceState) → IsHeard false old old
not_asked old = record { unasked = λ unasked. refl; failed = refl; whole = λ asked. absurd (true≢false (sym asked)) }

-- What is so of a reading is so of the text that is read so; and what is so of any is.
pub of-waived : (edition : Edition) (P : Result (List Waiver) Refusal → Type 0) (asked : Bool) (text : Option (List ℕ)) (waived : Result (List Waiver) Refusal)
    → AreWaived edition asked text waived → P waived → IfWaived edition asked text P
of-waived edition P false text waived is holds = subst P (sym is) holds
of-waived edition P true None waived is holds = tt
of-waived edition P true (Some text) waived is holds = subst P (sym is) holds

pub of-any : (edition : Edition) (P : Result (List Waiver) Refusal → Type 0) (asked : Bool) (text : Option (List ℕ))
    → ((waived : Result (List Waiver) Refusal) → P waived) → IfWaived edition asked text P
of-any edition P false text all = all (Ok [])
of-any edition P true None all = tt
of-any edition P true (Some text) all = all (waivers_in edition text)

pub waived-weaker : (edition : Edition) (P Q : Result (List Waiver) Refusal → Type 0) (asked : Bool) (text : Option (List ℕ))
    → ((waived : Result (List Waiver) Refusal) → P waived → Q waived) → IfWaived edition asked text P → IfWaived edition asked text Q
waived-weaker edition P Q false text on holds = on (Ok []) holds
waived-weaker edition P Q true None on holds = tt
waived-weaker edition P Q true (Some text) on holds = on (waivers_in edition text) holds

-- ---- the text that was had

-- What reading it returns is the text, or why there is none.
pub had : (old new : SourceState) (bytes : List ℕ) → AreAll 1048576 old new bytes → IsWaiverText true old new bytes
had old new bytes all = record {
  few = all.few;
  read = λ edition. text_is edition old.left new.left bytes all.consumed all.end all.few;
  heard = was_asked old new all.kept (the_end all.end);
}

pub had_none : (old new : SourceState) (failure : Failure) → AreUnread 1048576 E15 old new failure → IsNoWaiverText true old new failure
had_none old new failure (past bytes consumed many kept is) =
    too_large (λ edition. text_past edition old.left new.left bytes consumed many) (was_asked old new kept (past_limit bytes consumed many)) is
had_none old new failure (broken failed is) = read_failed refl failed is
had_none old new failure (unroomed kept is) = no_memory (record { unasked = λ unasked. absurd (true≢false unasked); failed = kept }) is

-- Where it isn't requested nothing is read.
pub unasked : (old : SourceState) (bytes : List ℕ) → bytes ≡ [] → IsWaiverText false old old bytes
unasked old bytes none = subst (IsWaiverText false old old) (sym none)
    (record { few = omega arith; read = no_text; heard = not_asked old })
