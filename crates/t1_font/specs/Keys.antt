-- The plain keys of a font (Type 1 Font Format, chapters 2 and 5) and the names that spell them. The last four are
-- noted: the token behind their name is looked at, and not taken.
use Rattle.std.specs.Prelude.{ℕ, Bool, Option, Some, None, List, [], ◌∷◌, if◌then◌else◌, nat_eq, codes}
use Rattle.std.specs.Cmp.Lexicographic.{pointwise}
use Rattle.t1_font.specs.declared.key.Key.{Key}
use Rattle.t1_font.specs.declared.key.Key.TheVariants.{FontType, PaintType, UniqueId, PrivateUniqueId, Password, MinFeature, LenIv, BlueValues, OtherBlues, FamilyBlues, FamilyOtherBlues, BlueScale, BlueShift, BlueFuzz, StdHw, StdVw, StemSnapH, StemSnapV, FontMatrix, FontBBox, Xuid, LanguageGroup}

-- Names are compared as bytes.
abbrev pub same_name : List ℕ → List ℕ → Bool
same_name = pointwise nat_eq

-- The key that a name has among rows, if there is one.
abbrev pub key_named : List ℕ → List (List ℕ × Key) → Option Key
key_named name [] = None
key_named name (row ∷ rest) = if same_name name row.0 then Some row.1 else key_named name rest

-- The plain keys of the clear text.
unfoldable pub clear_key : List ℕ → Option Key
clear_key name = key_named name (
    (codes "/FontType", FontType)
    ∷ (codes "/PaintType", PaintType)
    ∷ (codes "/UniqueID", UniqueId)
    ∷ [])

-- The plain keys of the Private dictionary.
unfoldable pub private_key : List ℕ → Option Key
private_key name = key_named name (
    (codes "/UniqueID", PrivateUniqueId)
    ∷ (codes "/password", Password)
    ∷ (codes "/MinFeature", MinFeature)
    ∷ (codes "/lenIV", LenIv)
    ∷ (codes "/BlueValues", BlueValues)
    ∷ (codes "/OtherBlues", OtherBlues)
    ∷ (codes "/FamilyBlues", FamilyBlues)
    ∷ (codes "/FamilyOtherBlues", FamilyOtherBlues)
    ∷ (codes "/BlueScale", BlueScale)
    ∷ (codes "/BlueShift", BlueShift)
    ∷ (codes "/BlueFuzz", BlueFuzz)
    ∷ (codes "/StdHW", StdHw)
    ∷ (codes "/StdVW", StdVw)
    ∷ (codes "/StemSnapH", StemSnapH)
    ∷ (codes "/StemSnapV", StemSnapV)
    ∷ [])

-- The noted keys of the clear text, and of the Private dictionary.
unfoldable pub clear_note : List ℕ → Option Key
clear_note name = key_named name (
    (codes "/FontMatrix", FontMatrix)
    ∷ (codes "/FontBBox", FontBBox)
    ∷ (codes "/XUID", Xuid)
    ∷ [])

unfoldable pub private_note : List ℕ → Option Key
private_note name = key_named name ((codes "/LanguageGroup", LanguageGroup) ∷ [])

-- Which keys are noted: of each text, the key that a name is.
pub record Notes : Type 0 where
  pub clear : List ℕ → Option Key
  pub private : List ℕ → Option Key

-- All that there are, and none.
abbrev pub all_notes : Notes
all_notes = record { clear = clear_note; private = private_note }

abbrev pub no_notes : Notes
no_notes = record { clear = λ _. None; private = λ _. None }

-- The place of a key among them.
abbrev pub index_of : Key → ℕ
index_of FontType = 0
index_of PaintType = 1
index_of UniqueId = 2
index_of PrivateUniqueId = 3
index_of Password = 4
index_of MinFeature = 5
index_of LenIv = 6
index_of BlueValues = 7
index_of OtherBlues = 8
index_of FamilyBlues = 9
index_of FamilyOtherBlues = 10
index_of BlueScale = 11
index_of BlueShift = 12
index_of BlueFuzz = 13
index_of StdHw = 14
index_of StdVw = 15
index_of StemSnapH = 16
index_of StemSnapV = 17
index_of FontMatrix = 18
index_of FontBBox = 19
index_of Xuid = 20
index_of LanguageGroup = 21

-- How many plain keys there are, those that are taken and all, and all places, in order.
abbrev pub taken_keys : ℕ
taken_keys = 18

abbrev pub plain_keys : ℕ
plain_keys = 22

abbrev pub key_places : List ℕ
key_places = 0 ∷ 1 ∷ 2 ∷ 3 ∷ 4 ∷ 5 ∷ 6 ∷ 7 ∷ 8 ∷ 9 ∷ 10 ∷ 11 ∷ 12 ∷ 13 ∷ 14 ∷ 15 ∷ 16 ∷ 17
    ∷ 18 ∷ 19 ∷ 20 ∷ 21 ∷ []
