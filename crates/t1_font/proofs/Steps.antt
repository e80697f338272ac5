-- What is stated in a text, token by token.
use Rattle.std.proofs.Common.{◌≡◌, ◌<◌, ℕ, zero, suc, false, Option, Some, None, Result, Ok, Err, IfOk, List, ◌++◌, length, refl, ap, sym, ◌∙◌, arith, codes, true}
use Rattle.t1_scan.specs.declared.error.ScanError.{ScanError}
use Rattle.t1_scan.specs.declared.token.Kind.TheVariants.{Word}
use Rattle.t1_scan.specs.Texts.{is_gap}
use Rattle.t1_scan.specs.Tokens.{Found, token_of}
use Rattle.t1_scan.proofs.TextsRead.{skip_gap}
use Rattle.t1_font.specs.declared.mode.ClearMode.{ClearMode}
use Rattle.t1_font.specs.declared.mode.ClearMode.TheVariants as clear_modes
use Rattle.t1_font.specs.declared.mode.PrivateMode.{PrivateMode}
use Rattle.t1_font.specs.declared.mode.PrivateMode.TheVariants.{Outside, Subrs, Glyphs}
use Rattle.t1_font.specs.declared.unread.Unread.{Unread}
use Rattle.t1_font.specs.declared.unread.Unread.TheVariants.{NoEexec, BadCharStrings, Unclosed}
use Rattle.t1_font.specs.Keys.{same_name}
use Rattle.t1_font.specs.Readings.{◌>>=◌}
use Rattle.t1_font.specs.Tokens.{token_at, wanted}
use Rattle.t1_font.specs.Fonts.{Stated, Marks, FontValue, value_of}
use Rattle.t1_font.specs.TextTurns.{TextTurn, over, goes, Reader, with_one, stated_within, stated_in}
use Rattle.t1_font.specs.ClearText.{code_at, code_turn, clear_turn, code_token, clear_turn_by, clear_outside_by}
use Rattle.t1_font.specs.PrivateText.{private_turn, glyphs_token, private_turn_by, private_outside_by, subrs_token_by}
use Rattle.t1_font.specs.Laws.UsualTexts.{BlanksPass, BlanksPassInPrivate, DupPassesInCodes, WordsPass, WordsPassInCodes, WordsPassInPrivate, WordsPassInSubrs, WordsPassInGlyphs}
use Rattle.t1_font.proofs.Running.{follow, Leaves, Shortens, is_shorter}
use Rattle.t1_font.proofs.Shorter.{clear_shortens, private_shortens}

module _ {M : Type 0} (turn : Reader M) (ended : Unread) (shortens : Shortens turn) (marks : Marks) where
  enough : (n m : ℕ) (before : List Stated) (mode : M) (s : List ℕ) → length s < n → length s < m → stated_within turn ended marks n before mode s
      ≡ stated_within turn ended marks m before mode s
  unfolding stated_within
  enough zero m before mode s a b = absurd (omega arith)
  enough (suc n) zero before mode s a b = absurd (omega arith)
  enough (suc n) (suc m) before mode s a b =
      elim (turn (value_of marks before) mode s) as (λ r. IfOk r (Leaves s) → (r >>= follow (stated_within turn ended marks n) before)
      ≡ (r >>= follow (stated_within turn ended marks m) before)) [
        | Err e ↦ λ _. refl
        | Ok t ↦ elim t as (λ t. Leaves s t → follow (stated_within turn ended marks n) before t ≡ follow (stated_within turn ended marks m) before t) [
          | over rest ↦ λ _. refl
          | goes e next left ↦ λ h. (let less = is_shorter s left h in enough n m (with_one before e) next left (omega (arith, less)) (omega (arith, less)))
        ]
      ] (shortens.less (value_of marks before) mode s)

  pub step : (before : List Stated) (mode : M) (s : List ℕ) → stated_in turn ended marks before mode s
      ≡ (turn (value_of marks before) mode s >>= follow (stated_in turn ended marks) before)
  unfolding stated_within
  step before mode s =
      elim (turn (value_of marks before) mode s) as (λ r. IfOk r (Leaves s) → (r >>= follow (stated_within turn ended marks (length s)) before)
      ≡ (r >>= follow (stated_in turn ended marks) before)) [
        | Err e ↦ λ _. refl
        | Ok t ↦ elim t as (λ t. Leaves s t → follow (stated_within turn ended marks (length s)) before t ≡ follow (stated_in turn ended marks) before t) [
          | over rest ↦ λ _. refl
          | goes e next left ↦ λ h. enough (length s) (suc (length left)) (with_one before e) next left (is_shorter s left h) (omega arith)
        ]
      ] (shortens.less (value_of marks before) mode s)

  pub goes_on : (before : List Stated) (mode : M) (s : List ℕ) (e : Option Stated) (next : M) (left : List ℕ) → turn (value_of marks before) mode s
      ≡ Ok (goes e next left) → stated_in turn ended marks before mode s ≡ stated_in turn ended marks (with_one before e) next left
  goes_on before mode s e next left h = step before mode s ∙ ap (λ r. r >>= follow (stated_in turn ended marks) before) h

  -- Texts that have the same turn state the same.
  same_turn : (before : List Stated) (mode : M) (s text : List ℕ) → turn (value_of marks before) mode s ≡ turn (value_of marks before) mode text
      → stated_in turn ended marks before mode s ≡ stated_in turn ended marks before mode text
  same_turn before mode s text h = step before mode s ∙ ap (λ r. r >>= follow (stated_in turn ended marks) before) h ∙ sym (step before mode text)

  pub refused : (before : List Stated) (mode : M) (s : List ℕ) (e : Unread) → turn (value_of marks before) mode s ≡ Err e
      → stated_in turn ended marks before mode s ≡ Err e
  refused before mode s e h = step before mode s ∙ ap (λ r. r >>= follow (stated_in turn ended marks) before) h

  pub is_over : (before : List Stated) (mode : M) (s rest : List ℕ) → turn (value_of marks before) mode s ≡ Ok (over rest)
      → stated_in turn ended marks before mode s ≡ Ok (record { stated = before; rest = rest })
  is_over before mode s rest h = step before mode s ∙ ap (λ r. r >>= follow (stated_in turn ended marks) before) h

pub found : (ended : Unread) (s : List ℕ) (t : Found) → token_of s ≡ Ok (Some t) → wanted ended s ≡ Ok t
unfolding wanted token_at
found ended s t h =
    ap (λ (r : Result (Option Found) ScanError). elim r [
      | Err _ ↦ Err Unclosed
      | Ok some ↦ elim some [ None ↦ Err ended | Some x ↦ Ok x ]
    ]) h

-- Blanks and comments before what is due.
wanted_behind : (ended : Unread) (gap s : List ℕ) → is_gap false gap ≡ true → wanted ended (gap ++ s) ≡ wanted ended s
unfolding wanted token_at
wanted_behind ended gap s h =
    ap (λ (r : Result (Option Found) ScanError). elim r [
      | Err _ ↦ Err Unclosed
      | Ok some ↦ elim some [ None ↦ Err ended | Some x ↦ Ok x ]
    ]) (skip_gap gap s h)

clear_behind : (v : FontValue) (mode : ClearMode) (gap s : List ℕ) → is_gap false gap ≡ true → clear_turn v mode (gap ++ s) ≡ clear_turn v mode s
unfolding clear_turn_by
clear_behind v mode gap s h = rw (wanted_behind NoEexec gap s h) refl

private_behind : (v : FontValue) (mode : PrivateMode) (gap s : List ℕ) → is_gap false gap ≡ true → private_turn v mode (gap ++ s) ≡ private_turn v mode s
unfolding private_turn_by
private_behind v mode gap s h = rw (wanted_behind BadCharStrings gap s h) refl

pub blanks_pass : BlanksPass
blanks_pass marks before mode gap s h = same_turn clear_turn NoEexec clear_shortens marks before mode (gap ++ s) s
    (clear_behind (value_of marks before) mode gap s h)

pub blanks_pass_in_private : BlanksPassInPrivate
blanks_pass_in_private marks before mode gap s h = same_turn private_turn BadCharStrings private_shortens marks before mode (gap ++ s) s
    (private_behind (value_of marks before) mode gap s h)

clear_word : (v : FontValue) (s : List ℕ) (t : Found) → token_of s ≡ Ok (Some t) → t.kind ≡ Word → same_name t.text (codes "eexec") ≡ false
    → clear_turn v clear_modes.Outside s ≡ Ok (goes None clear_modes.Outside t.rest)
unfolding clear_turn_by clear_outside_by
clear_word v s t h word other = rw (found NoEexec s t h, word, other) refl

pub words_pass : WordsPass
words_pass marks before s t h word other = goes_on clear_turn NoEexec clear_shortens marks before clear_modes.Outside s None clear_modes.Outside t.rest
    (clear_word (value_of marks before) s t h word other)

code_word : (v : FontValue) (s : List ℕ) (t : Found) → token_of s ≡ Ok (Some t) → t.kind ≡ Word → same_name t.text (codes "eexec") ≡ false
    → same_name t.text (codes "def") ≡ false → same_name t.text (codes "dup") ≡ false → clear_turn v clear_modes.Codes s
    ≡ Ok (goes None clear_modes.Codes t.rest)
unfolding clear_turn_by code_token
code_word v s t h word a b c = rw (found NoEexec s t h, word, a, b, c) refl

pub words_pass_in_codes : WordsPassInCodes
words_pass_in_codes marks before s t h word a b c = goes_on clear_turn NoEexec clear_shortens marks before clear_modes.Codes s None clear_modes.Codes t.rest
    (code_word (value_of marks before) s t h word a b c)

lone_dup : (s : List ℕ) → code_at s ≡ None → code_turn s ≡ goes None clear_modes.Codes s
unfolding code_turn
lone_dup s none = ap (λ (r : Option (TextTurn ClearMode)). elim r [ Some t ↦ t | None ↦ goes None clear_modes.Codes s ]) none

code_dup : (v : FontValue) (s : List ℕ) (t : Found) → token_of s ≡ Ok (Some t) → t.kind ≡ Word → t.text ≡ codes "dup" → code_at t.rest ≡ None
    → clear_turn v clear_modes.Codes s ≡ Ok (goes None clear_modes.Codes t.rest)
unfolding clear_turn_by code_token
code_dup v s t h word text none = rw (found NoEexec s t h, word, text) (ap Ok (lone_dup t.rest none))

pub dup_passes_in_codes : DupPassesInCodes
dup_passes_in_codes marks before s t h word text none = goes_on clear_turn NoEexec clear_shortens marks before clear_modes.Codes s None clear_modes.Codes t.rest
    (code_dup (value_of marks before) s t h word text none)

private_word : (v : FontValue) (s : List ℕ) (t : Found) → token_of s ≡ Ok (Some t) → t.kind ≡ Word → private_turn v Outside s ≡ Ok (goes None Outside t.rest)
unfolding private_turn_by private_outside_by
private_word v s t h word = rw (found BadCharStrings s t h, word) refl

pub words_pass_in_private : WordsPassInPrivate
words_pass_in_private marks before s t h word = goes_on private_turn BadCharStrings private_shortens marks before Outside s None Outside t.rest
    (private_word (value_of marks before) s t h word)

subr_word : (v : FontValue) (s : List ℕ) (t : Found) → token_of s ≡ Ok (Some t) → t.kind ≡ Word → same_name t.text (codes "dup") ≡ false
    → private_turn v Subrs s ≡ Ok (goes None Subrs t.rest)
unfolding private_turn_by subrs_token_by
subr_word v s t h word other = rw (found BadCharStrings s t h, word, other) refl

pub words_pass_in_subrs : WordsPassInSubrs
words_pass_in_subrs marks before s t h word other = goes_on private_turn BadCharStrings private_shortens marks before Subrs s None Subrs t.rest
    (subr_word (value_of marks before) s t h word other)

glyph_word : (v : FontValue) (s : List ℕ) (t : Found) → token_of s ≡ Ok (Some t) → t.kind ≡ Word → same_name t.text (codes "end") ≡ false
    → private_turn v Glyphs s ≡ Ok (goes None Glyphs t.rest)
unfolding private_turn_by glyphs_token
glyph_word v s t h word other = rw (found BadCharStrings s t h, word, other) refl

pub words_pass_in_glyphs : WordsPassInGlyphs
words_pass_in_glyphs marks before s t h word other = goes_on private_turn BadCharStrings private_shortens marks before Glyphs s None Glyphs t.rest
    (glyph_word (value_of marks before) s t h word other)
