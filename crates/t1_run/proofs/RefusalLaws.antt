-- A file is refused for its size, or by the law of its parts.
use Rattle.std.proofs.Common.{◌≡◌, ℕ, Bool, true, false, cond, nat_lt, List, length, Result, Ok, Err, IfErr, refl}
use Rattle.std.proofs.lemmas.Result.{IfErr-at_err}
use Rattle.t1_seal.specs.Segments.{joined_of}
use Rattle.t1_font.specs.FontFiles.{font_in}
use Rattle.t1_font.specs.Fonts.{FontValue}
use Rattle.t1_font.specs.Laws.Parts as parts
use Rattle.t1_font.specs.declared.unread.Unread.{Unread}
use Rattle.t1_font.specs.declared.unread.Unread.TheVariants.{Memory}
use Rattle.t1_report.specs.Refusals.Refusal.{FontTooLarge, Font}
use Rattle.t1_run.specs.FontFiles.{font_of, with_reason}
use Rattle.t1_run.specs.Laws.{IsOfSized, IsOfFile, RefusedByPart, NeverForMemory}

-- of the parts, where no law but theirs is known
reasoned : (bytes : List ℕ) (read : Result FontValue Unread) → ((unread : Unread) → read ≡ Err unread → parts.IsOfJoined (joined_of bytes) unread)
    → IfErr (with_reason read) (IsOfSized false bytes)
reasoned bytes (Ok font) h = tt
reasoned bytes (Err unread) h = (unread, (refl, h unread refl))

sized : parts.RefusedByPart → (test : Bool) (bytes : List ℕ) → IfErr (cond test (Err FontTooLarge) (with_reason (font_in bytes))) (IsOfSized test bytes)
sized by_part true bytes = refl
sized by_part false bytes = reasoned bytes (font_in bytes) (by_part bytes)

pub refused_by_part : parts.RefusedByPart → RefusedByPart
unfolding font_of
refused_by_part by_part bytes reason known = IfErr-at_err (IsOfFile bytes) known (sized by_part (nat_lt 16777216 (length bytes)) bytes)

-- running out of memory is no reason of a file
is_font : (read : Result FontValue Unread) (unread : Unread) → with_reason read ≡ Err (Font unread) → read ≡ Err unread
is_font (Ok font) unread h = cc
is_font (Err e) unread h = cc

small : (test : Bool) (read : Result FontValue Unread) → cond test (Err FontTooLarge) (with_reason read) ≡ Err (Font Memory) → read ≡ Err Memory
small true read h = cc
small false read h = is_font read Memory h

pub never_for_memory : parts.NeverForMemory → NeverForMemory
unfolding font_of
never_for_memory never bytes known = never bytes (small (nat_lt 16777216 (length bytes)) (font_in bytes) known)
