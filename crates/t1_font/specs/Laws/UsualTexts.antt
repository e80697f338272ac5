-- Texts in the usual form are read as what they state, and what is between entries changes nothing.
use Rattle.std.specs.Prelude.{◌≡◌, ℕ, false, true, Some, None, Ok, List, ◌++◌, codes}
use Rattle.t1_scan.specs.declared.token.Kind.TheVariants.{Word}
use Rattle.t1_scan.specs.Texts.{is_gap}
use Rattle.t1_scan.specs.Tokens.{Found, token_of}
use Rattle.t1_font.specs.declared.mode.ClearMode.{ClearMode}
use Rattle.t1_font.specs.declared.mode.ClearMode.TheVariants as clear_modes
use Rattle.t1_font.specs.declared.mode.PrivateMode.{PrivateMode}
use Rattle.t1_font.specs.declared.mode.PrivateMode.TheVariants.{Outside, Subrs, Glyphs}
use Rattle.t1_font.specs.declared.unread.Unread.TheVariants.{NoEexec, BadCharStrings}
use Rattle.t1_font.specs.Keys.{same_name}
use Rattle.t1_font.specs.Fonts.{Stated, Marks, value_of}
use Rattle.t1_font.specs.TextTurns.{stated_in}
use Rattle.t1_font.specs.ClearText.{code_at, clear_turn, clear_of}
use Rattle.t1_font.specs.PrivateText.{private_turn, private_of}
use Rattle.t1_font.specs.Texts.{font_value_of, font_read}
use Rattle.t1_font.specs.Laws.UsualClearText.{ClearItem, IsUsualClear, all_clear_states, clear_entries}
use Rattle.t1_font.specs.Laws.UsualPrivateText.{PrivateParts, IsUsualPrivate, StatesNoCharstring, all_private_states, private_entries}

-- A clear text in the usual form is read with just the values and codes that its items state.
abbrev pub ReadsUsualClear : Type 0
ReadsUsualClear = (marks : Marks) (items : List ClearItem) (s rest : List ℕ) → IsUsualClear items s rest →
    clear_of marks s ≡ Ok (record { stated = all_clear_states items; rest = rest })

-- A private text in the usual form is read with just the keys, Subrs and glyphs that its items state.
abbrev pub ReadsUsualPrivate : Type 0
ReadsUsualPrivate = (marks : Marks) (before : List Stated) (p : PrivateParts) (s rest : List ℕ) →
    StatesNoCharstring before → IsUsualPrivate p s rest →
    private_of marks before s ≡ Ok (record { stated = before ++ all_private_states p; rest = rest })

-- A font whose two texts are in the usual form is read with the value of what both state.
abbrev pub ReadsUsualFonts : Type 0
ReadsUsualFonts = (marks : Marks) (items : List ClearItem) (p : PrivateParts) (s rest text end : List ℕ) →
    IsUsualClear items s rest → IsUsualPrivate p text end →
    font_read marks (all_clear_states items) text
    ≡ Ok (value_of marks (all_clear_states items ++ all_private_states p))

-- Clear texts in the usual form with the same entries leave the same value, whatever blanks, comments
-- and tokens are between.
abbrev pub AdditionsInClear : Type 0
AdditionsInClear = (marks : Marks) (items more : List ClearItem) (s rest text end : List ℕ) →
    IsUsualClear items s rest → IsUsualClear more text end → clear_entries items ≡ clear_entries more →
    font_value_of marks (clear_of marks s) ≡ font_value_of marks (clear_of marks text)

-- So do private texts.
abbrev pub AdditionsInPrivate : Type 0
AdditionsInPrivate = (marks : Marks) (before : List Stated) (p q : PrivateParts) (s rest text end : List ℕ) →
    StatesNoCharstring before → IsUsualPrivate p s rest → IsUsualPrivate q text end →
    private_entries p ≡ private_entries q → font_read marks before s ≡ font_read marks before text

-- Blanks, and comments with the end of their line, before the rest of any text: in the clear text and
-- in the private one.
abbrev pub BlanksPass : Type 0
BlanksPass = (marks : Marks) (before : List Stated) (mode : ClearMode) (gap s : List ℕ) →
    is_gap false gap ≡ true →
    stated_in clear_turn NoEexec marks before mode (gap ++ s)
    ≡ stated_in clear_turn NoEexec marks before mode s

abbrev pub BlanksPassInPrivate : Type 0
BlanksPassInPrivate = (marks : Marks) (before : List Stated) (mode : PrivateMode) (gap s : List ℕ) →
    is_gap false gap ≡ true →
    stated_in private_turn BadCharStrings marks before mode (gap ++ s)
    ≡ stated_in private_turn BadCharStrings marks before mode s

-- A word other than eexec, with the blanks and comments before it, in the clear text.
abbrev pub WordsPass : Type 0
WordsPass = (marks : Marks) (before : List Stated) (s : List ℕ) (t : Found) →
    token_of s ≡ Ok (Some t) → t.kind ≡ Word → same_name t.text (codes "eexec") ≡ false →
    stated_in clear_turn NoEexec marks before clear_modes.Outside s
    ≡ stated_in clear_turn NoEexec marks before clear_modes.Outside t.rest

-- A word other than eexec, def and dup in a custom encoding.
abbrev pub WordsPassInCodes : Type 0
WordsPassInCodes = (marks : Marks) (before : List Stated) (s : List ℕ) (t : Found) →
    token_of s ≡ Ok (Some t) → t.kind ≡ Word → same_name t.text (codes "eexec") ≡ false →
    same_name t.text (codes "def") ≡ false → same_name t.text (codes "dup") ≡ false →
    stated_in clear_turn NoEexec marks before clear_modes.Codes s
    ≡ stated_in clear_turn NoEexec marks before clear_modes.Codes t.rest

-- The word dup in a custom encoding, where it begins no group.
abbrev pub DupPassesInCodes : Type 0
DupPassesInCodes = (marks : Marks) (before : List Stated) (s : List ℕ) (t : Found) →
    token_of s ≡ Ok (Some t) → t.kind ≡ Word → t.text ≡ codes "dup" → code_at t.rest ≡ None →
    stated_in clear_turn NoEexec marks before clear_modes.Codes s
    ≡ stated_in clear_turn NoEexec marks before clear_modes.Codes t.rest

-- Any word in the private text, outside the Subrs and the glyphs.
abbrev pub WordsPassInPrivate : Type 0
WordsPassInPrivate = (marks : Marks) (before : List Stated) (s : List ℕ) (t : Found) →
    token_of s ≡ Ok (Some t) → t.kind ≡ Word →
    stated_in private_turn BadCharStrings marks before Outside s
    ≡ stated_in private_turn BadCharStrings marks before Outside t.rest

-- A word other than dup among the Subrs: so any words serve as NP and ND.
abbrev pub WordsPassInSubrs : Type 0
WordsPassInSubrs = (marks : Marks) (before : List Stated) (s : List ℕ) (t : Found) →
    token_of s ≡ Ok (Some t) → t.kind ≡ Word → same_name t.text (codes "dup") ≡ false →
    stated_in private_turn BadCharStrings marks before Subrs s
    ≡ stated_in private_turn BadCharStrings marks before Subrs t.rest

-- A word other than end among the glyphs: so any word serves as ND.
abbrev pub WordsPassInGlyphs : Type 0
WordsPassInGlyphs = (marks : Marks) (before : List Stated) (s : List ℕ) (t : Found) →
    token_of s ≡ Ok (Some t) → t.kind ≡ Word → same_name t.text (codes "end") ≡ false →
    stated_in private_turn BadCharStrings marks before Glyphs s
    ≡ stated_in private_turn BadCharStrings marks before Glyphs t.rest
