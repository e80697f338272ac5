-- A small font in the usual form: its two texts, and their items.
use Rattle.std.specs.Prelude.{ℕ, None, List, [], ◌∷◌, ◌++◌, codes}
use Rattle.t1_scan.specs.Spelling.{Plain, word, decimal, no_sign, braced, bracketed, Body, nothing, part, byte}
use Rattle.t1_font.specs.declared.key.Key.TheVariants.{FontType, LenIv, BlueValues}
use Rattle.t1_font.specs.Laws.Written.{Charstring}
use Rattle.t1_font.specs.Laws.UsualClearText as clear
use Rattle.t1_font.specs.Laws.UsualPrivateText as private

-- A number, and the inside of a procedure or an array that nothing nests in.
abbrev pub digits : List ℕ → Plain
digits ds = decimal no_sign ds None

abbrev pub flat : List ℕ → Body
flat [] = nothing
flat (b ∷ s) = part (byte b) (flat s)

-- A charstring after its count, the word RD and a space.
abbrev pub charstring : List ℕ → List ℕ → Charstring
charstring count bytes =
    record { count = digits count; read_word = word (codes "RD"); separator = 32; bytes = bytes }

abbrev pub clear_text : List ℕ
clear_text =
    codes "%!FontType1-1.0: Small\n"
    ++ codes "/FontName /Small def\n"
    ++ codes "/FontType 1 def %plain\n"
    ++ codes "/Encoding 256 array\n"
    ++ codes "0 1 255 {1 index exch /.notdef put} for\n"
    ++ codes "dup 65/A put\n"
    ++ codes "readonly def\n"
    ++ codes "currentfile eexec"

abbrev pub code_items : List clear.CodeItem
code_items =
    clear.between_groups (digits (codes "0")) ∷ clear.between_groups (digits (codes "1"))
    ∷ clear.between_groups (digits (codes "255"))
    ∷ clear.between_groups (braced (flat (codes "1 index exch /.notdef put")))
    ∷ clear.between_groups (word (codes "for"))
    ∷ clear.group 65 (digits (codes "65")) (codes "A") ∷ clear.between_groups (word (codes "readonly")) ∷ []

abbrev pub clear_items : List clear.ClearItem
clear_items =
    clear.other_name (codes "FontName") ∷ clear.other_name (codes "Small")
    ∷ clear.other_token (word (codes "def"))
    ∷ clear.key FontType (codes "FontType") (digits (codes "1")) ∷ clear.other_token (word (codes "def"))
    ∷ clear.custom (digits (codes "256")) code_items
    ∷ clear.other_token (word (codes "currentfile")) ∷ []

abbrev pub private_text : List ℕ
private_text =
    codes "dup /Private 8 dict dup begin\n"
    ++ codes "/RD {string currentfile exch readstring pop} executeonly def\n"
    ++ codes "/BlueValues [-15 0]ND\n"
    ++ codes "/lenIV 4 def\n"
    ++ codes "/Subrs 1 array\n"
    ++ codes "dup 0 5 RD xxxxx NP\n"
    ++ codes "ND\n"
    ++ codes "2 index /CharStrings 1 dict dup begin\n"
    ++ codes "/.notdef 6 RD yyyyyy ND\n"
    ++ codes "end"

abbrev pub subr_items : List private.SubrItem
subr_items =
    private.subr_entry 0 (digits (codes "0")) (charstring (codes "5") (codes "xxxxx"))
    ∷ private.between_subrs (word (codes "NP")) ∷ []

abbrev pub private_parts : private.PrivateParts
private_parts = record {
  front =
      private.other_token (word (codes "dup")) ∷ private.other_name (codes "Private")
      ∷ private.other_token (digits (codes "8")) ∷ private.other_token (word (codes "dict"))
      ∷ private.other_token (word (codes "dup")) ∷ private.other_token (word (codes "begin"))
      ∷ private.other_name (codes "RD")
      ∷ private.other_token (braced (flat (codes "string currentfile exch readstring pop")))
      ∷ private.other_token (word (codes "executeonly")) ∷ private.other_token (word (codes "def"))
      ∷ private.key BlueValues (codes "BlueValues") (bracketed (flat (codes "-15 0")))
      ∷ private.other_token (word (codes "ND"))
      ∷ private.key LenIv (codes "lenIV") (digits (codes "4"))
      ∷ private.other_token (word (codes "def")) ∷ [];
  subrs = private.some_subrs 1 (digits (codes "1")) subr_items;
  back =
      private.other_token (word (codes "ND")) ∷ private.other_token (digits (codes "2"))
      ∷ private.other_token (word (codes "index")) ∷ [];
  count = digits (codes "1");
  glyphs =
      private.glyph_entry (codes ".notdef") (charstring (codes "6") (codes "yyyyyy"))
      ∷ private.between_glyphs (word (codes "ND")) ∷ [];
}

-- Its two texts are in the usual form.
abbrev pub SmallFontIsUsual : Type 0
SmallFontIsUsual =
    clear.IsUsualClear clear_items clear_text [] × private.IsUsualPrivate private_parts private_text []
