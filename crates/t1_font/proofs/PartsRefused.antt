-- Each part of a file is refused by a refusal of its own.
use Rattle.std.proofs.Common.{◌≡◌, ℕ, Bool, true, false, cond, nat_lt, List, length, Result, Ok, Err, IfErr, refl}
use Rattle.std.proofs.lemmas.Result.{IfErr-at_err}
use Rattle.t1_seal.specs.Segments.{JoinedText, joined_of}
use Rattle.t1_seal.specs.Eexec.{opened, private_text_of, cipher_bytes, section_of}
use Rattle.t1_seal.specs.SealError.{IsSegmentFault}
use Rattle.t1_seal.specs.declared.errors.SealError.{SealError}
use Rattle.t1_seal.specs.declared.errors.SealError.TheVariants as seal
use Rattle.t1_seal.proofs.SegmentFaults.{joined_of-refused}
use Rattle.t1_font.specs.ClearText.{clear_of}
use Rattle.t1_font.specs.FontFiles.{before_rest, of_seal_error, marks_in, private_next, read_with, section_next, clear_next, font_in}
use Rattle.t1_font.specs.Fonts.{Stated, Marks, FontValue}
use Rattle.t1_font.specs.Texts.{font_read}
use Rattle.t1_font.specs.TextTurns.{TextRead}
use Rattle.t1_font.specs.Laws.Parts.{IsOfSection, IsOfTexts, IsOfJoined, RefusedByPart, NeverForMemory}
use Rattle.t1_font.specs.Laws.Refusals.{IsClearRefusal, IsPrivateRefusal}
use Rattle.t1_font.specs.declared.unread.Unread.{Unread}
use Rattle.t1_font.specs.declared.unread.Unread.TheVariants.{Memory}
use Rattle.t1_font.proofs.Refused.{clear_refusals, font_read_refusals}

-- Each part, over what it is read as.
private_refused : (clear text : List ℕ) (read : Result FontValue Unread) → ((e : Unread) → read ≡ Err e → IsPrivateRefusal e)
    → IfErr (read_with clear text read) IsPrivateRefusal
private_refused clear text (Ok font) h = tt
private_refused clear text (Err e) h = h e refl

section_refused : (marks : Marks) (clear : List ℕ) (before : List Stated) (section : Result (List ℕ) SealError) → ((e : SealError) → section ≡ Err e → e ≡ seal.TooShort)
    → IfErr (private_next marks clear before section) (IsOfSection section)
section_refused marks clear before (Ok text) h = private_refused clear text (font_read marks before text) (font_read_refusals marks before text)
section_refused marks clear before (Err e) h = rw (h e refl) refl

chosen : {A : Type 0} (test : Bool) (x : A) (e : SealError) → cond test (Err seal.TooShort) (Ok x) ≡ Err e → e ≡ seal.TooShort
chosen true x e h = cc
chosen false x e h = cc

too_short : (bytes : List ℕ) (e : SealError) → private_text_of bytes ≡ Err e → e ≡ seal.TooShort
unfolding private_text_of opened
too_short bytes e h = chosen (nat_lt (length (cipher_bytes (section_of bytes))) 4) _ e h

texts_refused : (marks : Marks) (s : List ℕ) (read : Result TextRead Unread) → ((e : Unread) → read ≡ Err e → IsClearRefusal e)
    → IfErr (section_next marks s read) (IsOfTexts read)
texts_refused marks s (Ok clear) h = section_refused marks (before_rest s clear.rest) clear.stated (private_text_of clear.rest) (too_short clear.rest)
texts_refused marks s (Err e) h = h e refl

joined_refused : (joined : Result JoinedText SealError) → ((e : SealError) → joined ≡ Err e → IsSegmentFault e) → IfErr (clear_next joined) (IsOfJoined joined)
joined_refused (Ok joined) h = texts_refused (marks_in joined) joined.bytes (clear_of (marks_in joined) joined.bytes) (clear_refusals (marks_in joined) joined.bytes)
joined_refused (Err e) h = (e, (h e refl, refl))

in_file : (bytes : List ℕ) → IfErr (font_in bytes) (IsOfJoined (joined_of bytes))
unfolding font_in
in_file bytes = joined_refused (joined_of bytes) (joined_of-refused bytes)

pub refused_by_part : RefusedByPart
refused_by_part bytes unread known = IfErr-at_err (IsOfJoined (joined_of bytes)) known (in_file bytes)

-- Running out of memory is of no part.
no_segments : (e : SealError) → IsSegmentFault e → Memory ≡ of_seal_error e → ⊥
no_segments seal.NotAFont h named = cc
no_segments seal.BadHeader h named = cc
no_segments seal.CutShort h named = cc
no_segments seal.TooShort h named = h
no_segments seal.Memory h named = h

no_section : (section : Result (List ℕ) SealError) → IsOfSection section Memory → ⊥
no_section (Ok text) h = h
no_section (Err e) h = cc

no_texts : (read : Result TextRead Unread) → IsOfTexts read Memory → ⊥
no_texts (Ok clear) h = no_section (private_text_of clear.rest) h
no_texts (Err e) h = h

no_joined : (joined : Result JoinedText SealError) → IsOfJoined joined Memory → ⊥
no_joined (Ok joined) h = no_texts (clear_of (marks_in joined) joined.bytes) h
no_joined (Err e) h = no_segments h.0 h.1.0 h.1.1

pub never_for_memory : NeverForMemory
never_for_memory bytes known = no_joined (joined_of bytes) (refused_by_part bytes Memory known)
