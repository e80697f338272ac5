-- What the steps of reading joined bytes say together.
use Rattle.std.proofs.Common.{◌≡◌, ℕ, ◌-◌, List, drop, length, take, Result, Ok, Err, inl, inr, refl, sym, ap, ◌∙◌}
use Rattle.t1_seal.specs.declared.errors.SealError.{SealError}
use Rattle.t1_seal.specs.declared.errors.SealError.TheVariants as seal
use Rattle.t1_seal.specs.Readings.{Unless}
use Rattle.t1_seal.specs.SealError.{is_memory as is_seal_memory}
use Rattle.t1_seal.specs.Eexec.{private_text_of}
use Rattle.t1_seal.specs.Segments.{JoinedText}
use Rattle.t1_font.specs.ClearText.{clear_of}
use Rattle.t1_font.specs.FontFiles.{IsUnread, marks_in, of_seal_error, private_next, read_with, section_next, text_in}
use Rattle.t1_font.specs.Fonts.{Stated, Marks, FontValue, value_of, with_texts}
use Rattle.t1_font.specs.Texts.{ClearValue, clear_value_of, clear_read, font_read}
use Rattle.t1_font.specs.TextTurns.{TextRead}
use Rattle.t1_font.specs.declared.unread.Unread.{Unread}
use Rattle.t1_font.specs.declared.unread.Unread.TheVariants.{Memory}
use Rattle.t1_font.specs.Readings.{is_memory}

-- The clear text that was read.
record IsClearOf (marks : Marks) (s : List ℕ) (read : Result TextRead Unread) (clear : ClearValue) : Type 0 where
  text : TextRead
  is : read ≡ Ok text
  font : clear.font ≡ value_of marks text.stated
  after : clear.after ≡ length s - length text.rest

cleared : (marks : Marks) (s : List ℕ) (read : Result TextRead Unread) (clear : ClearValue) → clear_value_of marks s read ≡ Ok clear
    → IsClearOf marks s read clear
cleared marks s (Err e) clear h = cc
cleared marks s (Ok text) clear h =
    let same = ap (λ (r : Result ClearValue Unread). elim r [ Ok c ↦ c.font | Err e ↦ value_of marks text.stated ]) h in
    let place = ap (λ (r : Result ClearValue Unread). elim r [ Ok c ↦ c.after | Err e ↦ 0 ]) h in
    record { text = text; is = refl; font = sym same; after = sym place }

-- What comes after the clear text: the encrypted section.
record IsAtSection (joined : JoinedText) (clear : ClearValue) : Type 0 where
  stated : List Stated
  font : clear.font ≡ value_of (marks_in joined) stated
  is : text_in joined ≡ private_next (marks_in joined) (take clear.after joined.bytes) stated (private_text_of (drop clear.after joined.bytes))

-- It begins where the clear text says.
abbrev pub IsBehind : JoinedText → ClearValue → Type 0
IsBehind joined clear = (read : TextRead) → clear_of (marks_in joined) joined.bytes ≡ Ok read → read.rest ≡ drop clear.after joined.bytes

at_section : (joined : JoinedText) (clear : ClearValue) → clear_read (marks_in joined) joined.bytes ≡ Ok clear → IsBehind joined clear → IsAtSection joined clear
at_section joined clear is behind =
    let marks = marks_in joined in
    let read = cleared marks joined.bytes (clear_of marks joined.bytes) clear is in
    record {
      stated = read.text.stated;
      font = read.font;
      is = ap (section_next marks joined.bytes) read.is
          ∙ ap (λ n. private_next marks (take n joined.bytes) read.text.stated (private_text_of read.text.rest)) (sym read.after)
          ∙ ap (private_next marks (take clear.after joined.bytes) read.text.stated) (ap private_text_of (behind read.text read.is));
    }

pub font_found : (joined : JoinedText) (clear : ClearValue) → clear_read (marks_in joined) joined.bytes ≡ Ok clear → IsBehind joined clear
    → (text : List ℕ) (font : FontValue) → private_text_of (drop clear.after joined.bytes) ≡ Ok text
    → ((m : Marks) (before : List Stated) → clear.font ≡ value_of m before → font_read m before text ≡ Ok font)
    → text_in joined ≡ Ok (with_texts (take clear.after joined.bytes) text font)
font_found joined clear is behind text font opened h =
    let section = at_section joined clear is behind in
    section.is ∙ ap (private_next (marks_in joined) (take clear.after joined.bytes) section.stated) opened
    ∙ ap (read_with (take clear.after joined.bytes) text) (h (marks_in joined) section.stated section.font)

-- Where a part is refused, the font isn't read for that reason, unless memory ran out.
no_text : (marks : Marks) (s : List ℕ) (read : Result TextRead Unread) (e : Unread) → clear_value_of marks s read ≡ Err e → read ≡ Err e
no_text marks s (Err x) e h = cc
no_text marks s (Ok text) e h = cc

pub no_clear : (joined : JoinedText) (e : Unread) → Unless (is_memory e) (clear_read (marks_in joined) joined.bytes ≡ Err e)
    → IsUnread e (text_in joined)
no_clear joined Memory h = inl refl
no_clear joined e h =
    inr (ap (section_next (marks_in joined) joined.bytes) (no_text (marks_in joined) joined.bytes (clear_of (marks_in joined) joined.bytes) e h))

pub no_section : (joined : JoinedText) (clear : ClearValue) → clear_read (marks_in joined) joined.bytes ≡ Ok clear → IsBehind joined clear
    → (e : SealError) → Unless (is_seal_memory e) (private_text_of (drop clear.after joined.bytes) ≡ Err e) → IsUnread (of_seal_error e) (text_in joined)
no_section joined clear is behind seal.Memory h = inl refl
no_section joined clear is behind e h =
    let section = at_section joined clear is behind in inr (section.is ∙ ap (private_next (marks_in joined) (take clear.after joined.bytes) section.stated) h)

pub no_font : (joined : JoinedText) (clear : ClearValue) → clear_read (marks_in joined) joined.bytes ≡ Ok clear → IsBehind joined clear
    → (text : List ℕ) → private_text_of (drop clear.after joined.bytes) ≡ Ok text
    → (e : Unread) → ((m : Marks) (before : List Stated) → clear.font ≡ value_of m before → Unless (is_memory e) (font_read m before text ≡ Err e))
    → IsUnread e (text_in joined)
no_font joined clear is behind text opened Memory h = inl refl
no_font joined clear is behind text opened e h =
    let section = at_section joined clear is behind in
    inr (section.is ∙ ap (private_next (marks_in joined) (take clear.after joined.bytes) section.stated) opened
    ∙ ap (read_with (take clear.after joined.bytes) text) (h (marks_in joined) section.stated section.font))
