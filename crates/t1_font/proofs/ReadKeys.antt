-- The keys of a font that was read are different.
use Rattle.std.proofs.Common.{ℕ, Result, Ok, Err, IfOk, List}
use Rattle.t1_seal.specs.Eexec.{private_text_of}
use Rattle.t1_seal.specs.Segments.{JoinedText, joined_of}
use Rattle.t1_seal.specs.declared.errors.SealError.{SealError}
use Rattle.t1_font.specs.declared.unread.Unread.{Unread}
use Rattle.t1_font.specs.ClearText.{clear_of}
use Rattle.t1_font.specs.FontFiles.{before_rest, clear_next, font_in, marks_in, private_next, read_with, section_next}
use Rattle.t1_font.specs.Fonts.{Marks}
use Rattle.t1_font.specs.Laws.Keys.{FontsHaveDistinctKeys, HasDistinctKeys}
use Rattle.t1_font.specs.PrivateText.{private_of}
use Rattle.t1_font.specs.Texts.{font_value_of}
use Rattle.t1_font.specs.TextTurns.{TextRead}
use Rattle.t1_font.proofs.DifferentKeys.{none_stands_twice}

of_stated : (marks : Marks) (clear text : List ℕ) (read : Result TextRead Unread) → IfOk (read_with clear text (font_value_of marks read)) HasDistinctKeys
of_stated marks clear text (Ok read) =
    let keys = none_stands_twice marks read.stated in record { subrs = keys.subrs; glyphs = keys.glyphs; codes = keys.codes }
of_stated marks clear text (Err e) = tt

of_section : (marks : Marks) (s : List ℕ) (clear : TextRead) (section : Result (List ℕ) SealError)
    → IfOk (private_next marks s clear.stated section) HasDistinctKeys
of_section marks s clear (Ok text) = of_stated marks s text (private_of marks clear.stated text)
of_section marks s clear (Err e) = tt

of_clear : (marks : Marks) (s : List ℕ) (clear : Result TextRead Unread) → IfOk (section_next marks s clear) HasDistinctKeys
of_clear marks s (Ok clear) = of_section marks (before_rest s clear.rest) clear (private_text_of clear.rest)
of_clear marks s (Err e) = tt

of_joined : (joined : Result JoinedText SealError) → IfOk (clear_next joined) HasDistinctKeys
of_joined (Ok joined) = of_clear (marks_in joined) joined.bytes (clear_of (marks_in joined) joined.bytes)
of_joined (Err e) = tt

of_file : (bytes : List ℕ) → IfOk (font_in bytes) HasDistinctKeys
unfolding font_in
of_file bytes = of_joined (joined_of bytes)

pub fonts_have_distinct_keys : FontsHaveDistinctKeys
fonts_have_distinct_keys bytes font is = let held : HasDistinctKeys font = rw is at (of_file bytes) in held
