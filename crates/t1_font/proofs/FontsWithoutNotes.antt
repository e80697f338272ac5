-- A font's file that is read with the noted keys, and without them.
use Rattle.std.proofs.Common.{◌≡◌, Result, Ok, Err, List, ℕ, refl, sym, ap, ◌∙◌}
use Rattle.t1_seal.specs.Eexec.{private_text_of}
use Rattle.t1_seal.specs.Segments.{JoinedText, joined_of}
use Rattle.t1_seal.specs.declared.errors.SealError.{SealError}
use Rattle.t1_font.specs.declared.unread.Unread.{Unread}
use Rattle.t1_font.specs.ClearText.{clear_of, clear_of_by}
use Rattle.t1_font.specs.FontFiles.{before_rest, clear_next, font_in, marks_in, private_next, read_with, section_next}
use Rattle.t1_font.specs.Fonts.{FontValue, Marks, Stated, with_texts}
use Rattle.t1_font.specs.Keys.{Notes, all_notes, no_notes}
use Rattle.t1_font.specs.Laws.Notes.{FontsHaveTheirNotes, FontsStayWithoutNotes, of_seal, read_without, unnoted_font, without_notes}
use Rattle.t1_font.specs.PrivateText.{private_of, private_of_by}
use Rattle.t1_font.specs.Readings.{◌>>=◌}
use Rattle.t1_font.specs.TextTurns.{TextRead}
use Rattle.t1_font.specs.Texts.{font_value_of}
use Rattle.t1_font.proofs.NotesApart.{clear_stays, private_stays, values_stay}

-- What follows the clear text, and what follows the segments.
abbrev after_clear : Notes → Marks → List ℕ → TextRead → Result FontValue Unread
after_clear notes marks s clear =
    of_seal (private_text_of clear.rest) >>= λ text. read_with (before_rest s clear.rest) text (font_value_of marks (private_of_by notes marks clear.stated text))

abbrev after_segments : Notes → JoinedText → Result FontValue Unread
after_segments notes joined = clear_of_by notes (marks_in joined) joined.bytes >>= after_clear notes (marks_in joined) joined.bytes

pub fonts_have_their_notes : FontsHaveTheirNotes
unfolding font_in
fonts_have_their_notes bytes = by_joined (joined_of bytes)
  where
    by_section : (marks : Marks) (clear : List ℕ) (before : List Stated) (section : Result (List ℕ) SealError)
        → (of_seal section >>= λ text. read_with clear text (font_value_of marks (private_of_by all_notes marks before text)))
        ≡ private_next marks clear before section
    by_section marks clear before (Ok text) = refl
    by_section marks clear before (Err e) = refl

    by_clear : (marks : Marks) (s : List ℕ) (clear : Result TextRead Unread) → (clear >>= after_clear all_notes marks s) ≡ section_next marks s clear
    by_clear marks s (Ok read) = by_section marks (before_rest s read.rest) read.stated (private_text_of read.rest)
    by_clear marks s (Err e) = refl

    by_joined : (joined : Result JoinedText SealError) → (of_seal joined >>= after_segments all_notes) ≡ clear_next joined
    by_joined (Ok joined) = by_clear (marks_in joined) joined.bytes (clear_of (marks_in joined) joined.bytes)
    by_joined (Err e) = refl

pub fonts_stay : FontsStayWithoutNotes
fonts_stay bytes = by_joined (joined_of bytes) ∙ ap unnoted_font (fonts_have_their_notes bytes)
  where
    by_read : (marks : Marks) (clear text : List ℕ) (read : Result TextRead Unread)
        → read_with clear text (font_value_of marks (read_without read)) ≡ unnoted_font (read_with clear text (font_value_of marks read))
    by_read marks clear text (Ok read) = ap (λ v. Ok (with_texts clear text v)) (values_stay marks read.stated)
    by_read marks clear text (Err e) = refl

    by_section : (marks : Marks) (clear : List ℕ) (before : List Stated) (section : Result (List ℕ) SealError)
        → (of_seal section >>= λ text. read_with clear text (font_value_of marks (private_of_by no_notes marks (without_notes before) text)))
        ≡ unnoted_font (of_seal section >>= λ text. read_with clear text (font_value_of marks (private_of_by all_notes marks before text)))
    by_section marks clear before (Ok text) =
        ap (λ read. read_with clear text (font_value_of marks read)) (private_stays marks before text) ∙ by_read marks clear text (private_of marks before text)
    by_section marks clear before (Err e) = refl

    by_clear : (marks : Marks) (s : List ℕ) (clear : Result TextRead Unread)
        → (read_without clear >>= after_clear no_notes marks s) ≡ unnoted_font (clear >>= after_clear all_notes marks s)
    by_clear marks s (Ok read) = by_section marks (before_rest s read.rest) read.stated (private_text_of read.rest)
    by_clear marks s (Err e) = refl

    by_joined : (joined : Result JoinedText SealError)
        → (of_seal joined >>= after_segments no_notes) ≡ unnoted_font (of_seal joined >>= after_segments all_notes)
    by_joined (Ok joined) =
        ap (λ read. read >>= after_clear no_notes (marks_in joined) joined.bytes) (clear_stays (marks_in joined) joined.bytes)
        ∙ by_clear (marks_in joined) joined.bytes (clear_of (marks_in joined) joined.bytes)
    by_joined (Err e) = refl
