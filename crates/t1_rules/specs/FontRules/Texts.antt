-- What an interpreter of PostScript meets in the two texts of a font (Type 1 Font Format, chapter 2): the clear one up to its word
-- eexec, and the private one up to the end of the CharStrings.
use Rattle.std.specs.Prelude.{Bool, not, is_some, ◌||◌, Option, List, [], ◌∷◌}
use Rattle.t1_font.specs.declared.key.Key.{Key}
use Rattle.t1_font.specs.declared.key.Key.TheVariants.{FontType, PaintType, UniqueId, PrivateUniqueId, Password, MinFeature, LenIv, BlueValues, OtherBlues, FamilyBlues, FamilyOtherBlues, BlueScale, BlueShift, BlueFuzz, StdHw, StdVw, StemSnapH, StemSnapV, FontMatrix, FontBBox, Xuid, LanguageGroup}
use Rattle.t1_font.specs.Fonts.{FontValue}
use Rattle.t1_font.specs.Rows.{clear_row, private_row}
use Rattle.t1_texts.specs.PrivateDictionary.{has_private}
use Rattle.t1_texts.specs.RowFaults.{Placed, RowFaults, faults_in}

-- The keys of which the reader takes the value.
abbrev pub plain_keys : List Key
plain_keys =
    FontType ∷ PaintType ∷ UniqueId ∷ PrivateUniqueId ∷ Password ∷ MinFeature ∷ LenIv ∷ BlueValues ∷ OtherBlues ∷ FamilyBlues ∷ FamilyOtherBlues
    ∷ BlueScale ∷ BlueShift ∷ BlueFuzz ∷ StdHw ∷ StdVw ∷ StemSnapH ∷ StemSnapV ∷ FontMatrix ∷ FontBBox ∷ Xuid ∷ LanguageGroup ∷ []

-- A fault of this kind is in one of the texts.
abbrev pub in_a_text : (RowFaults → Option Placed) → FontValue → Bool
in_a_text fault font = is_some (fault (faults_in (clear_row font))) || is_some (fault (faults_in (private_row font)))

abbrev pub has_unpaired : FontValue → Bool
has_unpaired = in_a_text (λ faults. faults.unpaired)

abbrev pub has_unknown_word : FontValue → Bool
has_unknown_word = in_a_text (λ faults. faults.unknown)

-- Charstrings are in the private text alone.
abbrev pub has_unread_charstring : FontValue → Bool
has_unread_charstring font = is_some (faults_in (private_row font)).unread

abbrev pub lacks_private : FontValue → Bool
lacks_private font = not (has_private (private_row font))
