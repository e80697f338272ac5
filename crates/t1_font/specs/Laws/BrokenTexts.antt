-- Laws of the refusals of private texts in the usual form that break off, or hold one wrong thing.
use Rattle.std.specs.Prelude.{◌≡◌, ◌<◌, ◌≤◌, ℕ, false, true, None, Err, List, [], codes, length}
use Rattle.t1_scan.specs.declared.token.Kind.TheVariants.{Word}
use Rattle.t1_scan.specs.Spelling.{Plain, meant}
use Rattle.t1_scan.specs.Texts.{are_blanks, BeginsWith}
use Rattle.t1_font.specs.declared.unread.Unread.TheVariants.{Unclosed, BadSubrs, BadCharStrings, BadLenIv, PastLimit}
use Rattle.t1_font.specs.Fonts.{Stated, Marks}
use Rattle.t1_font.specs.PrivateText.{private_of}
use Rattle.t1_font.specs.Tokens.{is_number_kind, whole}
use Rattle.t1_font.specs.Laws.Written.{IsWhole}
use Rattle.t1_font.specs.Laws.UsualPrivateText.{PrivateItem, SubrItem, GlyphItem, StatesNoCharstring}
use Rattle.t1_font.specs.Laws.BrokenPrivateText.{Begun, IsBegun, IsUnclosed, missing, Opening, among_subrs, among_glyphs, lone_dup, subr_number, glyph_name, no_length, its_length}
use Rattle.t1_font.specs.Bounds.{longest_charstring}

-- Where only blanks and comments are left, the refusal is that of what is missing.
abbrev pub EndsTooSoon : Type 0
EndsTooSoon = (marks : Marks) (before : List Stated) (b : Begun) (s left : List ℕ) →
    StatesNoCharstring before → IsBegun b s left → are_blanks false left ≡ true →
    private_of marks before s ≡ Err (missing b)

-- Where what is left begins with no token, a token isn't closed.
abbrev pub UnclosedToken : Type 0
UnclosedToken = (marks : Marks) (before : List Stated) (b : Begun) (s left : List ℕ) →
    StatesNoCharstring before → IsBegun b s left → IsUnclosed left → private_of marks before s ≡ Err Unclosed

-- Where fewer bytes are left than a charstring's count and the byte before them, the entry is broken.
abbrev pub SubrCutOff : Type 0
SubrCutOff = (marks : Marks) (before : List Stated) (front : List PrivateItem) (n : ℕ) (count : Plain)
    (items : List SubrItem) (i len : ℕ) (number bytes read_word : Plain) (s mid left : List ℕ) →
    StatesNoCharstring before →
    IsBegun (among_subrs front n count items (subr_number i number (its_length len bytes))) s mid →
    BeginsWith mid read_word left → meant read_word ≡ Word → length left ≤ len →
    private_of marks before s ≡ Err BadSubrs

abbrev pub GlyphCutOff : Type 0
GlyphCutOff = (marks : Marks) (before : List Stated) (o : Opening) (count : Plain) (items : List GlyphItem)
    (run : List ℕ) (len : ℕ) (bytes read_word : Plain) (s mid left : List ℕ) → StatesNoCharstring before →
    IsBegun (among_glyphs o count items (glyph_name run (its_length len bytes))) s mid →
    BeginsWith mid read_word left → meant read_word ≡ Word → length left ≤ len →
    private_of marks before s ≡ Err BadCharStrings

-- A charstring's count past 65,535, whatever follows: of a Subr, where its number is good, and of a glyph.
abbrev pub SubrTooLong : Type 0
SubrTooLong = (marks : Marks) (before : List Stated) (front : List PrivateItem) (n : ℕ) (count : Plain)
    (items : List SubrItem) (i len : ℕ) (number bytes : Plain) (s mid left : List ℕ) →
    StatesNoCharstring before →
    IsBegun (among_subrs front n count items (subr_number i number no_length)) s mid →
    BeginsWith mid bytes left → IsWhole bytes len → longest_charstring < len → private_of marks before s ≡ Err PastLimit

abbrev pub GlyphTooLong : Type 0
GlyphTooLong = (marks : Marks) (before : List Stated) (o : Opening) (count : Plain) (items : List GlyphItem)
    (run : List ℕ) (len : ℕ) (bytes : Plain) (s mid left : List ℕ) → StatesNoCharstring before →
    IsBegun (among_glyphs o count items (glyph_name run no_length)) s mid →
    BeginsWith mid bytes left → IsWhole bytes len → longest_charstring < len → private_of marks before s ≡ Err PastLimit

-- A Subr's number that isn't whole from 0, as -1 or 0.5, whatever follows, as a count past its limit.
abbrev pub SubrNumberFirst : Type 0
SubrNumberFirst = (marks : Marks) (before : List Stated) (front : List PrivateItem) (n : ℕ) (count : Plain)
    (items : List SubrItem) (number : Plain) (s mid left : List ℕ) → StatesNoCharstring before →
    IsBegun (among_subrs front n count items lone_dup) s mid →
    BeginsWith mid number left → is_number_kind (meant number) ≡ true → whole (meant number) ≡ None →
    private_of marks before s ≡ Err BadSubrs

-- Small texts that break off or go wrong so.
abbrev pub SmallTextsBreak : Type 0
SmallTextsBreak = (marks : Marks) →
    (private_of marks [] (codes "/lenIV ") ≡ Err BadLenIv)
    × (private_of marks [] (codes "/BlueFuzz ") ≡ Err BadCharStrings)
    × (private_of marks [] (codes "/Subrs 1 array dup ") ≡ Err BadCharStrings)
    × (private_of marks [] (codes "/Subrs 1 array dup 0 ") ≡ Err BadSubrs)
    × (private_of marks [] (codes "/Subrs 1 array dup 0 70000 ") ≡ Err PastLimit)
    × (private_of marks [] (codes "/Subrs 1 array dup -1 70000 ") ≡ Err BadSubrs)
    × (private_of marks [] (codes "/CharStrings 1 dict dup begin /a 70000 ") ≡ Err PastLimit)
