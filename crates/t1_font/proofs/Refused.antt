-- Each text is refused for one of its own refusals: each turn is, and so is the end of the turns.
use Rattle.std.proofs.Common.{ℕ, zero, suc, Bool, true, false, cond, nat_lt, if◌then◌else◌, Option, Some, None, Result, Ok, Err, rules, IfErr, List, [], length, codes}
use Rattle.std.proofs.lemmas.Result.{IfErr-at_err}
use Rattle.t1_scan.specs.declared.token.Kind.{Kind}
use Rattle.t1_scan.specs.Tokens.{Found}
use Rattle.t1_font.specs.declared.key.Key.{Key}
use Rattle.t1_font.specs.declared.mode.ClearMode.{ClearMode}
use Rattle.t1_font.specs.declared.mode.ClearMode.TheVariants as clear_modes
use Rattle.t1_font.specs.declared.mode.PrivateMode.{PrivateMode}
use Rattle.t1_font.specs.declared.mode.PrivateMode.TheVariants.{Outside, Subrs, Glyphs}
use Rattle.t1_font.specs.declared.unread.Unread.{Unread}
use Rattle.t1_font.specs.declared.unread.Unread.TheVariants.{Unclosed, BadSubrs, BadCharStrings, BadLenIv, NoEexec, PastLimit}
use Rattle.t1_font.specs.Readings.{◌>>=◌}
use Rattle.t1_font.specs.Keys.{private_key, clear_key, all_notes}
use Rattle.t1_font.specs.Tokens.{token_at, wanted, token_ahead, whole, natural, is_word_kind, is_number_kind, name_of, spells, raw_of, some_raw, past_word, charstring_at}
use Rattle.t1_font.specs.Fonts.{Stated, Marks, FontValue, value_of, size, glyph}
use Rattle.t1_font.specs.Puts.{put_one}
use Rattle.t1_font.specs.TextTurns.{over, goes, TextRead, Reader, with_one, stated_within}
use Rattle.t1_font.specs.Runs.{FontRead, go_on, run_within}
use Rattle.t1_font.specs.ClearText.{clear_value, clear_outside, clear_turn, begins_as_font, clear_of, clear_turn_by, clear_outside_by, clear_of_by}
use Rattle.t1_font.specs.PrivateText.{is_len_iv_key, private_value, subrs_at, subrs_turn, glyphs_at, private_outside, subr_at, dup_turn, subrs_token, glyph_turn, glyphs_token, private_turn, private_of, private_turn_by, private_outside_by, subrs_token_by, private_of_by}
use Rattle.t1_font.specs.Texts.{clear_value_of, font_value_of, value_alone}
use Rattle.t1_font.specs.Laws.Refusals.{IsClearRefusal, IsPrivateRefusal, ClearRefusals, ClearReadRefusals, PrivateRefusals, FontReadRefusals, FontAfterRefusals}
use Rattle.t1_font.proofs.Running.{follow}

-- What is read next, too, is refused so.
then_refused : {A B : Type 0} (P : Unread → Type 0) (r : Result A Unread) (f : A → Result B Unread) → IfErr r P → ((x : A) → IfErr (f x) P)
    → IfErr (r >>= f) P
then_refused P (Ok x) f h k = k x
then_refused P (Err e) f h k = h

either_refused : {A : Type 0} (P : Unread → Type 0) (b : Bool) (x y : Result A Unread) → IfErr x P → IfErr y P → IfErr (cond b x y) P
either_refused P true x y h k = h
either_refused P false x y h k = k

-- Tokens are refused as unclosed, or as `bad` says.
module _ (P : Unread → Type 0) (bad : Unread) (unclosed : P Unclosed) (told : P bad) where
  wanted_refused : (s : List ℕ) → IfErr (wanted bad s) P
  unfolding wanted
  wanted_refused s =
      elim (token_at s) as (λ r. IfErr {T = Found} {E = Unread}
      (elim r [ Err _ ↦ Err Unclosed | Ok found ↦ elim found [ None ↦ Err bad | Some t ↦ Ok t ] ]) P) [
        | Err _ ↦ unclosed
        | Ok found ↦ elim found as (λ r. IfErr {T = Found} {E = Unread} (elim r [ None ↦ Err bad | Some t ↦ Ok t ]) P) [
          | None ↦ told
          | Some t ↦ tt
        ]
      ]

  past_refused : (word s : List ℕ) → IfErr (past_word bad word s) P
  unfolding past_word
  past_refused word s = then_refused P (wanted bad s) _ (wanted_refused s) (λ t. either_refused P (spells word t.kind t.text) (Ok t.rest) (Err bad) tt told)

  raw_refused : (r : Option (List ℕ × List ℕ)) → IfErr (some_raw bad r) P
  raw_refused None = told
  raw_refused (Some p) = tt

  module _ (past : P PastLimit) where
    natural_refused : (limit : ℕ) (kind : Kind) → IfErr (natural bad limit kind) P
    unfolding natural
    natural_refused limit kind =
        elim (whole kind) as (λ r. IfErr {T = ℕ} {E = Unread} (elim r [ None ↦ Err bad | Some n ↦ if nat_lt limit n then Err PastLimit else Ok n ]) P) [
          | None ↦ told
          | Some n ↦ either_refused P (nat_lt limit n) (Err PastLimit) (Ok n) past tt
        ]

    charstring_refused : (s : List ℕ) → IfErr (charstring_at bad s) P
    unfolding charstring_at
    charstring_refused s =
        then_refused P (wanted bad s) _ (wanted_refused s) (λ count.
        then_refused P (natural bad 65535 count.kind) _ (natural_refused 65535 count.kind) (λ len.
        then_refused P (wanted bad count.rest) _ (wanted_refused count.rest) (λ word.
        either_refused P (is_word_kind word.kind) (some_raw bad (raw_of len word.rest)) (Err bad) (raw_refused (raw_of len word.rest)) told)))

-- A turn of the clear text.
clear_value_refused : (k : Option Key) (text s : List ℕ) → IfErr (clear_value all_notes k text s) IsClearRefusal
unfolding clear_value
clear_value_refused None text s = tt
clear_value_refused (Some k) text s = then_refused IsClearRefusal (wanted NoEexec s) _ (wanted_refused IsClearRefusal NoEexec tt tt s) (λ t. tt)

clear_outside_refused : (kind : Kind) (text s : List ℕ) → IfErr (clear_outside kind text s) IsClearRefusal
unfolding clear_outside_by
clear_outside_refused kind text s = search (rules, either_refused, clear_value_refused (clear_key text) text s)

clear_turn_refused : (v : FontValue) (mode : ClearMode) (s : List ℕ) → IfErr (clear_turn v mode s) IsClearRefusal
unfolding clear_turn_by
clear_turn_refused v clear_modes.Outside s = then_refused IsClearRefusal (wanted NoEexec s) _ (wanted_refused IsClearRefusal NoEexec tt tt s)
    (λ t. clear_outside_refused t.kind t.text t.rest)
clear_turn_refused v clear_modes.Codes s = then_refused IsClearRefusal (wanted NoEexec s) _ (wanted_refused IsClearRefusal NoEexec tt tt s) (λ t. tt)

-- A turn of the private text.
key_refusal : (b : Bool) → IsPrivateRefusal (cond b BadLenIv BadCharStrings)
key_refusal true = tt
key_refusal false = tt

private_value_refused : (k : Option Key) (text s : List ℕ) → IfErr (private_value all_notes k text s) IsPrivateRefusal
unfolding private_value
private_value_refused None text s = tt
private_value_refused (Some k) text s =
    then_refused IsPrivateRefusal (wanted _ s) _ (wanted_refused IsPrivateRefusal (if is_len_iv_key k then BadLenIv else BadCharStrings) tt
    (key_refusal (is_len_iv_key k)) s) (λ t.
    search (rules, either_refused))

subrs_at_refused : (s : List ℕ) → IfErr (subrs_at s) IsPrivateRefusal
unfolding subrs_at
subrs_at_refused s =
    then_refused IsPrivateRefusal (wanted BadSubrs s) _ (wanted_refused IsPrivateRefusal BadSubrs tt tt s) (λ t.
    let counted : IfErr (natural BadSubrs 65535 t.kind >>= λ count. past_word BadSubrs (codes "array") t.rest >>= λ left. Ok
    (goes (Some (size count)) Subrs left)) IsPrivateRefusal =
    then_refused IsPrivateRefusal (natural BadSubrs 65535 t.kind) _ (natural_refused IsPrivateRefusal BadSubrs tt tt tt 65535 t.kind) (λ count.
    then_refused IsPrivateRefusal (past_word BadSubrs (codes "array") t.rest) (λ left. Ok (goes (Some (size count)) Subrs left))
    (past_refused IsPrivateRefusal BadSubrs tt tt (codes "array") t.rest) (λ left. tt)) in
    search (rules, either_refused, counted))

subrs_turn_refused : (v : FontValue) (s : List ℕ) → IfErr (subrs_turn v s) IsPrivateRefusal
unfolding subrs_turn
subrs_turn_refused v s = search (rules, either_refused, subrs_at_refused s)

glyphs_at_refused : (s : List ℕ) → IfErr (glyphs_at s) IsPrivateRefusal
unfolding glyphs_at
glyphs_at_refused s =
    then_refused IsPrivateRefusal (wanted BadCharStrings s) _ (wanted_refused IsPrivateRefusal BadCharStrings tt tt s) (λ t.
    then_refused IsPrivateRefusal (natural BadCharStrings 65535 t.kind) _ (natural_refused IsPrivateRefusal BadCharStrings tt tt tt 65535 t.kind) (λ count.
    then_refused IsPrivateRefusal (past_word BadCharStrings (codes "dict") t.rest) _
    (past_refused IsPrivateRefusal BadCharStrings tt tt (codes "dict") t.rest) (λ a.
    then_refused IsPrivateRefusal (past_word BadCharStrings (codes "dup") a) _ (past_refused IsPrivateRefusal BadCharStrings tt tt (codes "dup") a) (λ b.
    then_refused IsPrivateRefusal (past_word BadCharStrings (codes "begin") b) _
    (past_refused IsPrivateRefusal BadCharStrings tt tt (codes "begin") b) (λ c. tt)))))

private_outside_refused : (v : FontValue) (kind : Kind) (text s : List ℕ) → IfErr (private_outside v kind text s) IsPrivateRefusal
unfolding private_outside_by
private_outside_refused v kind text s =
    search (rules, either_refused, subrs_turn_refused v s, glyphs_at_refused s, private_value_refused (private_key text) text s)

subr_at_refused : (kind : Kind) (s : List ℕ) → IfErr (subr_at kind s) IsPrivateRefusal
unfolding subr_at
subr_at_refused kind s =
    then_refused IsPrivateRefusal (natural BadSubrs 65534 kind) _ (natural_refused IsPrivateRefusal BadSubrs tt tt tt 65534 kind) (λ n.
    then_refused IsPrivateRefusal (charstring_at BadSubrs s) _ (charstring_refused IsPrivateRefusal BadSubrs tt tt tt s) (λ bytes. tt))

dup_turn_refused : (s : List ℕ) → IfErr (dup_turn s) IsPrivateRefusal
unfolding dup_turn
dup_turn_refused s =
    elim (token_ahead s) as (λ r. IfErr (elim r [
      | None ↦ Ok (goes None Outside s)
      | Some t ↦ if is_number_kind t.kind then subr_at t.kind t.rest else Ok (goes None Outside s)
    ]) IsPrivateRefusal) [
      | None ↦ tt
      | Some t ↦ either_refused IsPrivateRefusal (is_number_kind t.kind) (subr_at t.kind t.rest) (Ok (goes None Outside s)) (subr_at_refused t.kind t.rest) tt
    ]

subrs_token_refused : (v : FontValue) (kind : Kind) (text s : List ℕ) → IfErr (subrs_token v kind text s) IsPrivateRefusal
unfolding subrs_token_by
subrs_token_refused v kind text s = search (rules, either_refused, dup_turn_refused s, private_outside_refused v kind text s)

glyph_turn_refused : (v : FontValue) (name s : List ℕ) → IfErr (glyph_turn v name s) IsPrivateRefusal
unfolding glyph_turn
glyph_turn_refused v name s =
    let read : IfErr (charstring_at BadCharStrings s >>= λ bytes. Ok (goes (Some (glyph name bytes.0)) Glyphs bytes.1)) IsPrivateRefusal =
    then_refused IsPrivateRefusal (charstring_at BadCharStrings s) (λ bytes. Ok (goes (Some (glyph name bytes.0)) Glyphs bytes.1))
    (charstring_refused IsPrivateRefusal BadCharStrings tt tt tt s) (λ bytes. tt) in
    search (rules, either_refused, read)

glyphs_token_refused : (v : FontValue) (kind : Kind) (text s : List ℕ) → IfErr (glyphs_token v kind text s) IsPrivateRefusal
unfolding glyphs_token
glyphs_token_refused v kind text s = search (rules, either_refused, glyph_turn_refused v (name_of text) s)

private_turn_refused : (v : FontValue) (mode : PrivateMode) (s : List ℕ) → IfErr (private_turn v mode s) IsPrivateRefusal
unfolding private_turn_by
private_turn_refused v Outside s = then_refused IsPrivateRefusal (wanted BadCharStrings s) _ (wanted_refused IsPrivateRefusal BadCharStrings tt tt s)
    (λ t. private_outside_refused v t.kind t.text t.rest)
private_turn_refused v Subrs s = then_refused IsPrivateRefusal (wanted BadCharStrings s) _ (wanted_refused IsPrivateRefusal BadCharStrings tt tt s)
    (λ t. subrs_token_refused v t.kind t.text t.rest)
private_turn_refused v Glyphs s = then_refused IsPrivateRefusal (wanted BadCharStrings s) _ (wanted_refused IsPrivateRefusal BadCharStrings tt tt s)
    (λ t. glyphs_token_refused v t.kind t.text t.rest)

-- A text whose turns are refused so.
module _ {M : Type 0} (P : Unread → Type 0) (turn : Reader M) (ended : Unread) (told : P ended) (turns : (v : FontValue) (mode : M) (s : List ℕ)
    → IfErr (turn v mode s) P) where
  text_refused : (marks : Marks) (n : ℕ) (before : List Stated) (mode : M) (s : List ℕ) → IfErr (stated_within turn ended marks n before mode s) P
  unfolding stated_within
  text_refused marks zero before mode s = told
  text_refused marks (suc n) before mode s =
      then_refused P (turn (value_of marks before) mode s) (follow (stated_within turn ended marks n) before) (turns (value_of marks before) mode s) (λ t.
      elim t as (λ t. IfErr (follow (stated_within turn ended marks n) before t) P) [
        | over rest ↦ tt
        | goes e next left ↦ text_refused marks n (with_one before e) next left
      ])

  run_refused : (n : ℕ) (v : FontValue) (mode : M) (s : List ℕ) → IfErr (run_within turn ended n v mode s) P
  unfolding run_within
  run_refused zero v mode s = told
  run_refused (suc n) v mode s =
      then_refused P (turn v mode s) (go_on (run_within turn ended n) v) (turns v mode s) (λ t.
      elim t as (λ t. IfErr (go_on (run_within turn ended n) v t) P) [
        | over rest ↦ tt
        | goes e next left ↦ run_refused n (put_one v e) next left
      ])

clear_is_refused : (marks : Marks) (s : List ℕ) → IfErr (clear_of marks s) IsClearRefusal
unfolding clear_of_by
clear_is_refused marks s = either_refused IsClearRefusal (begins_as_font s) (stated_within clear_turn NoEexec marks (suc (length s)) [] clear_modes.Outside s)
    (Err NoEexec) (text_refused IsClearRefusal clear_turn NoEexec tt clear_turn_refused marks (suc (length s)) [] clear_modes.Outside s) tt

private_is_refused : (marks : Marks) (before : List Stated) (s : List ℕ) → IfErr (private_of marks before s) IsPrivateRefusal
unfolding private_of_by
private_is_refused marks before s = text_refused IsPrivateRefusal private_turn BadCharStrings tt private_turn_refused marks (suc (length s)) before Outside s

-- Readers refuse as the texts do.
clear_value_is_refused : (marks : Marks) (s : List ℕ) (read : Result TextRead Unread) → IfErr read IsClearRefusal
    → IfErr (clear_value_of marks s read) IsClearRefusal
clear_value_is_refused marks s (Ok read) h = tt
clear_value_is_refused marks s (Err e) h = h

font_value_is_refused : (marks : Marks) (read : Result TextRead Unread) → IfErr read IsPrivateRefusal → IfErr (font_value_of marks read) IsPrivateRefusal
font_value_is_refused marks (Ok read) h = tt
font_value_is_refused marks (Err e) h = h

value_alone_is_refused : (read : Result FontRead Unread) → IfErr read IsPrivateRefusal → IfErr (value_alone read) IsPrivateRefusal
value_alone_is_refused (Ok read) h = tt
value_alone_is_refused (Err e) h = h

pub clear_refusals : ClearRefusals
clear_refusals marks s e known = IfErr-at_err IsClearRefusal known (clear_is_refused marks s)

pub clear_read_refusals : ClearReadRefusals
clear_read_refusals marks s e known = IfErr-at_err IsClearRefusal known (clear_value_is_refused marks s (clear_of marks s) (clear_is_refused marks s))

pub private_refusals : PrivateRefusals
private_refusals marks before s e known = IfErr-at_err IsPrivateRefusal known (private_is_refused marks before s)

pub font_read_refusals : FontReadRefusals
font_read_refusals marks before s e known = IfErr-at_err IsPrivateRefusal known
    (font_value_is_refused marks (private_of marks before s) (private_is_refused marks before s))

pub font_after_refusals : FontAfterRefusals
font_after_refusals v s e known = IfErr-at_err IsPrivateRefusal known
    (value_alone_is_refused _ (run_refused IsPrivateRefusal private_turn BadCharStrings tt private_turn_refused (suc (length s)) v Outside s))
