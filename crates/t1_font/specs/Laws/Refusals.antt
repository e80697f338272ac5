-- The refusals that the texts of a font can have, whatever their bytes. Running out of memory is none of them.
use Rattle.std.specs.Prelude.{◌≡◌, ℕ, Err, List}
use Rattle.t1_font.specs.declared.unread.Unread.{Unread}
use Rattle.t1_font.specs.declared.unread.Unread.TheVariants.{NoEexec, Unclosed, BadSubrs, BadCharStrings, BadLenIv, PastLimit, SecondSubrs, MultipleMaster}
use Rattle.t1_font.specs.Fonts.{Stated, Marks, FontValue}
use Rattle.t1_font.specs.ClearText.{clear_of}
use Rattle.t1_font.specs.PrivateText.{private_of}
use Rattle.t1_font.specs.Texts.{clear_read, font_read, font_after}

-- E04, E07 or E13.
abbrev pub IsClearRefusal : Unread → Type 0
IsClearRefusal NoEexec = Unit {0}
IsClearRefusal Unclosed = Unit {0}
IsClearRefusal MultipleMaster = Unit {0}
IsClearRefusal _ = ⊥

-- E07, E08, E09, E10, E11 or E12.
abbrev pub IsPrivateRefusal : Unread → Type 0
IsPrivateRefusal Unclosed = Unit {0}
IsPrivateRefusal BadSubrs = Unit {0}
IsPrivateRefusal BadCharStrings = Unit {0}
IsPrivateRefusal BadLenIv = Unit {0}
IsPrivateRefusal PastLimit = Unit {0}
IsPrivateRefusal SecondSubrs = Unit {0}
IsPrivateRefusal _ = ⊥

-- A clear text has one of its three refusals, and so has its reader.
abbrev pub ClearRefusals : Type 0
ClearRefusals = (marks : Marks) (s : List ℕ) (e : Unread) → clear_of marks s ≡ Err e → IsClearRefusal e

abbrev pub ClearReadRefusals : Type 0
ClearReadRefusals = (marks : Marks) (s : List ℕ) (e : Unread) →
    clear_read marks s ≡ Err e → IsClearRefusal e

-- A private text has one of its six refusals, and so has its reader.
abbrev pub PrivateRefusals : Type 0
PrivateRefusals = (marks : Marks) (before : List Stated) (s : List ℕ) (e : Unread) →
    private_of marks before s ≡ Err e → IsPrivateRefusal e

abbrev pub FontReadRefusals : Type 0
FontReadRefusals = (marks : Marks) (before : List Stated) (s : List ℕ) (e : Unread) →
    font_read marks before s ≡ Err e → IsPrivateRefusal e

-- So has a reader that goes on from whatever value was read before.
abbrev pub FontAfterRefusals : Type 0
FontAfterRefusals = (v : FontValue) (s : List ℕ) (e : Unread) → font_after v s ≡ Err e → IsPrivateRefusal e
