-- Each turn of a text states only what is within the limits, and only glyphs with names.
use Rattle.std.proofs.Common.{◌≡◌, ◌<◌, ◌≤◌, ◌&&◌, ℕ, not, true, drop, IsTrue, if◌then◌else◌, Option, Some, None, Ok, Err, rules, IfOk, IfSome, List, length, nat_lt, nat_le, arith, codes, inl, inr}
use Rattle.std.proofs.lemmas.Bool.{cases_Bool}
use Rattle.std.proofs.lemmas.Bool.Decides.{nat_tests}
use Rattle.std.specs.List.{list_all}
use Rattle.t1_scan.specs.Bytes.{is_regular}
use Rattle.t1_scan.specs.declared.token.Kind.{Kind}
use Rattle.t1_font.specs.declared.key.Key.{Key}
use Rattle.t1_font.specs.declared.encoding.Encoding.TheVariants.{Custom, Other}
use Rattle.t1_font.specs.declared.mode.ClearMode.{ClearMode}
use Rattle.t1_font.specs.declared.mode.ClearMode.TheVariants as clear_modes
use Rattle.t1_font.specs.declared.mode.PrivateMode.{PrivateMode}
use Rattle.t1_font.specs.declared.mode.PrivateMode.TheVariants.{Outside, Subrs, Glyphs}
use Rattle.t1_font.specs.declared.unread.Unread.{Unread}
use Rattle.t1_font.specs.declared.unread.Unread.TheVariants.{BadCharStrings, BadSubrs, NoEexec, PastLimit}
use Rattle.t1_font.specs.Readings.{◌>>=◌}
use Rattle.t1_font.specs.Keys.{same_name, private_key, clear_key, all_notes, clear_note, private_note}
use Rattle.t1_font.specs.Tokens.{wanted, token_ahead, natural, whole, whole_up_to, is_number_kind, is_name_kind, is_word_kind, name_of, spells, past_word, charstring_at, ◌>?◌}
use Rattle.t1_font.specs.Fonts.{Stated, FontValue, plain, encoding, code, bad_code, size, subr, glyph}
use Rattle.t1_font.specs.TextTurns.{TextTurn, over, goes}
use Rattle.t1_font.specs.ClearText.{clear_value, array_at, encoding_at, encoding_turn, clear_outside, code_statement, code_at, code_turn, code_token, clear_turn, begins, clear_turn_by, clear_outside_by}
use Rattle.t1_font.specs.PrivateText.{has_key, private_value, subrs_at, subrs_turn, glyphs_at, private_outside, subr_at, dup_turn, subrs_token, glyph_turn, glyphs_token, private_turn, private_turn_by, private_outside_by, subrs_token_by}
use Rattle.t1_font.specs.Private.Room.{HasRoom, HasRoomFor}
use Rattle.t1_font.proofs.Compose.{bind, next, either, choose, glance, which, found_or}
use Rattle.t1_font.proofs.Kept.{FitsOne, StatesFitting}
use Rattle.t1_font.proofs.NamesFound.{NamedFound, wanted_named}
use Rattle.t1_font.specs.Notes.{noted}
use Rattle.t1_scan.specs.Tokens.{Found}

-- A statement that leaves a value within the limits; a glyph's has its name as well, of regular bytes.
abbrev pub Fits : FontValue → Stated → Type 0
Fits v (plain k t) = Unit {0}
Fits v (encoding form) = Unit {0}
Fits v (code n name) = n < 256
Fits v bad_code = Unit {0}
Fits v (size n) = n ≤ 65535
Fits v (subr n bytes) = n < 65535
Fits v (glyph name bytes) = HasRoom v name × IsTrue (list_all is_regular name)

pub room_for : (v : FontValue) (e : Option Stated) → FitsOne (Fits v) e → HasRoomFor v e
room_for v None h = tt
room_for v (Some (plain k t)) h = tt
room_for v (Some (encoding form)) h = tt
room_for v (Some (code n name)) h = tt
room_for v (Some bad_code) h = tt
room_for v (Some (size n)) h = tt
room_for v (Some (subr n bytes)) h = tt
room_for v (Some (glyph name bytes)) h = h.0

-- What a turn states fits.
abbrev pub Keeps : {M : Type 0} → FontValue → TextTurn M → Type 0
Keeps v = StatesFitting (Fits v)

-- A number that was read is at most its limit.
natural_fits : (bad : Unread) (limit : ℕ) (kind : Kind) → IfOk (natural bad limit kind) (λ n. n ≤ limit)
unfolding natural
natural_fits bad limit kind = elim (whole kind) as
    (λ r. IfOk {E = Unread} (elim r [ None ↦ Err bad | Some n ↦ if nat_lt limit n then Err PastLimit else Ok n ]) (λ n. n ≤ limit)) [
      | None ↦ tt
      | Some m ↦ (elim (cases_Bool (nat_lt limit m)) [
        | inl y ↦ rw y tt
        | inr n ↦ rw n (let few : m ≤ limit = grind (arith, nat_tests, n) in few)
      ])
    ]

whole_up_to_fits : (limit : ℕ) (kind : Kind) → IfSome (whole_up_to limit kind) (λ n. n ≤ limit)
unfolding whole_up_to
whole_up_to_fits limit kind = glance (λ n. n ≤ limit) (whole kind) (λ n. if nat_lt limit n then None else Some n) (λ m.
    elim (cases_Bool (nat_lt limit m)) [
      | inl y ↦ rw y tt
      | inr n ↦ rw n (let few : m ≤ limit = grind (arith, nat_tests, n) in few)
    ])

module _ (v : FontValue) where
  -- A noted key's value always fits.
  note_fits : {M : Type 0} (k : Option Key) (mode : M) (s : List ℕ) → Keeps v (goes (noted k s) mode s)
  unfolding noted
  note_fits None mode s = tt
  note_fits (Some k) mode s = elim (token_ahead s) as
      (λ (r : Option Found). Keeps v (goes (r >? λ t. Some (plain k (record { kind = t.kind; text = t.text }))) mode s)) [
        | None ↦ tt
        | Some t ↦ tt
      ]

  private_value_fits : (k : Option Key) (text s : List ℕ) → IfOk (private_value all_notes k text s) (Keeps v)
  unfolding private_value
  private_value_fits None text s = note_fits (private_note text) Outside s
  private_value_fits (Some k) text s = next (Keeps v) (wanted _ s) _ (λ t. search (rules, either))

  subrs_at_fits : (s : List ℕ) → IfOk (subrs_at s) (Keeps v)
  unfolding subrs_at
  subrs_at_fits s =
      next (Keeps v) (wanted BadSubrs s) _ (λ t.
      let none : 0 ≤ 65535 = omega arith in
      let counted : IfOk (natural BadSubrs 65535 t.kind >>= λ count. past_word BadSubrs (codes "array") t.rest >>= λ left. Ok
      (goes (Some (size count)) Subrs left)) (Keeps v) =
      bind (λ n. n ≤ 65535) (Keeps v) (natural BadSubrs 65535 t.kind) _ (natural_fits BadSubrs 65535 t.kind) (λ count h.
      next (Keeps v) (past_word BadSubrs (codes "array") t.rest) (λ left. Ok (goes (Some (size count)) Subrs left)) (λ left. h)) in
      search (rules, either, none, counted))

  subrs_turn_fits : (s : List ℕ) → IfOk (subrs_turn v s) (Keeps v)
  unfolding subrs_turn
  subrs_turn_fits s = search (rules, either, subrs_at_fits s)

  glyphs_at_fits : (s : List ℕ) → IfOk (glyphs_at s) (Keeps v)
  unfolding glyphs_at
  glyphs_at_fits s =
      next (Keeps v) (wanted BadCharStrings s) _ (λ t.
      next (Keeps v) (natural BadCharStrings 65535 t.kind) _ (λ count.
      next (Keeps v) (past_word BadCharStrings (codes "dict") t.rest) _ (λ a.
      next (Keeps v) (past_word BadCharStrings (codes "dup") a) _ (λ b.
      next (Keeps v) (past_word BadCharStrings (codes "begin") b) _ (λ c. tt)))))

  private_outside_fits : (kind : Kind) (text s : List ℕ) → IfOk (private_outside v kind text s) (Keeps v)
  unfolding private_outside_by
  private_outside_fits kind text s =
      search (rules, either, subrs_turn_fits s, glyphs_at_fits s, private_value_fits (private_key text) text s)

  subr_at_fits : (kind : Kind) (s : List ℕ) → IfOk (subr_at kind s) (Keeps v)
  unfolding subr_at
  subr_at_fits kind s =
      bind (λ n. n ≤ 65534) (Keeps v) (natural BadSubrs 65534 kind) _ (natural_fits BadSubrs 65534 kind) (λ n h.
      let less : n < 65535 = omega (arith, h) in
      next (Keeps v) (charstring_at BadSubrs s) _ (λ bytes. less))

  dup_turn_fits : (s : List ℕ) → IfOk (dup_turn s) (Keeps v)
  unfolding dup_turn
  dup_turn_fits s =
      elim (token_ahead s) as (λ r. IfOk (elim r [
        | None ↦ Ok (goes None Outside s)
        | Some t ↦ if is_number_kind t.kind then subr_at t.kind t.rest else Ok (goes None Outside s)
      ]) (Keeps v)) [
        | None ↦ tt
        | Some t ↦ either (Keeps v) (is_number_kind t.kind) (subr_at t.kind t.rest) (Ok (goes None Outside s)) (subr_at_fits t.kind t.rest) tt
      ]

  subrs_token_fits : (kind : Kind) (text s : List ℕ) → IfOk (subrs_token v kind text s) (Keeps v)
  unfolding subrs_token_by
  subrs_token_fits kind text s = search (rules, either, dup_turn_fits s, private_outside_fits kind text s)

  glyph_turn_fits : (name s : List ℕ) → IsTrue (list_all is_regular name) → IfOk (glyph_turn v name s) (Keeps v)
  unfolding glyph_turn
  glyph_turn_fits name s named =
      elim (cases_Bool (nat_le 65535 (length v.glyphs) && not (has_key same_name v.glyphs name))) [
        | inl y ↦ rw y tt
        | inr n ↦ rw n (next (Keeps v) (charstring_at BadCharStrings s) (λ bytes. Ok (goes (Some (glyph name bytes.0)) Glyphs bytes.1)) (λ bytes. (n, named)))
      ]

  glyphs_token_fits : (kind : Kind) (text s : List ℕ) → (is_name_kind kind ≡ true → IsTrue (list_all is_regular (drop 1 text)))
      → IfOk (glyphs_token v kind text s) (Keeps v)
  unfolding glyphs_token
  glyphs_token_fits kind text s named =
      either (Keeps v) (spells (codes "end") kind text) (Ok (over s)) _ tt
      (either (Keeps v) (is_word_kind kind) (Ok (goes None Glyphs s)) _ tt
      (elim (cases_Bool (is_name_kind kind)) [
        | inl y ↦ rw y (glyph_turn_fits (name_of text) s (named y))
        | inr n ↦ rw n tt
      ]))

  pub private_fits : (mode : PrivateMode) (s : List ℕ) → IfOk (private_turn v mode s) (Keeps v)
  unfolding private_turn_by
  private_fits Outside s = next (Keeps v) (wanted BadCharStrings s) _ (λ t. private_outside_fits t.kind t.text t.rest)
  private_fits Subrs s = next (Keeps v) (wanted BadCharStrings s) _ (λ t. subrs_token_fits t.kind t.text t.rest)
  private_fits Glyphs s = bind NamedFound (Keeps v) (wanted BadCharStrings s) _ (wanted_named BadCharStrings s)
      (λ t named. glyphs_token_fits t.kind t.text t.rest named)

  clear_value_fits : (k : Option Key) (text s : List ℕ) → IfOk (clear_value all_notes k text s) (Keeps v)
  unfolding clear_value
  clear_value_fits None text s = note_fits (clear_note text) clear_modes.Outside s
  clear_value_fits (Some k) text s = next (Keeps v) (wanted NoEexec s) _ (λ t. tt)

  encoding_at_fits : (s : List ℕ) → IfSome (encoding_at s) (Keeps v)
  unfolding encoding_at
  encoding_at_fits s =
      glance (Keeps v) (token_ahead s) _ (λ t.
      let custom : IfSome (array_at t.rest >? λ rest. Some (begins Custom clear_modes.Codes rest)) (Keeps v) =
      glance (Keeps v) (array_at t.rest) (λ rest. Some (begins Custom clear_modes.Codes rest)) (λ rest. tt) in
      search (rules, which, custom))

  encoding_turn_fits : (s : List ℕ) → IfOk {E = Unread} (Ok (encoding_turn s)) (Keeps v)
  unfolding encoding_turn
  encoding_turn_fits s = found_or (Keeps v) (encoding_at s) (begins Other clear_modes.Outside s) (encoding_at_fits s) tt

  clear_outside_fits : (kind : Kind) (text s : List ℕ) → IfOk (clear_outside kind text s) (Keeps v)
  unfolding clear_outside_by
  clear_outside_fits kind text s = search (rules, either, encoding_turn_fits s, clear_value_fits (clear_key text) text s)

  code_statement_fits : (kind : Kind) (text : List ℕ) → Fits v (code_statement kind text)
  unfolding code_statement
  code_statement_fits kind text =
      elim (whole_up_to 255 kind) as (λ r. IfSome r (λ n. n ≤ 255) → Fits v (elim r [ Some n ↦ code n (name_of text) | None ↦ bad_code ])) [
        | Some n ↦ λ h. (let less : n < 256 = omega (arith, h) in less)
        | None ↦ λ _. tt
      ] (whole_up_to_fits 255 kind)

  code_at_fits : (s : List ℕ) → IfSome (code_at s) (Keeps v)
  unfolding code_at
  code_at_fits s =
      glance (Keeps v) (token_ahead s) _ (λ number.
      which (Keeps v) (not (is_number_kind number.kind)) None (token_ahead number.rest >? λ name.
      if not (is_name_kind name.kind) then None else (
      token_ahead name.rest >? λ last.
      if spells (codes "put") last.kind last.text
      then Some (goes (Some (code_statement number.kind name.text)) clear_modes.Codes last.rest) else None)) tt
      (glance (Keeps v) (token_ahead number.rest) _ (λ name.
      which (Keeps v) (not (is_name_kind name.kind)) None (token_ahead name.rest >? λ last.
      if spells (codes "put") last.kind last.text
      then Some (goes (Some (code_statement number.kind name.text)) clear_modes.Codes last.rest) else None) tt
      (glance (Keeps v) (token_ahead name.rest) _ (λ last.
      which (Keeps v) (spells (codes "put") last.kind last.text) (Some (goes (Some (code_statement number.kind name.text)) clear_modes.Codes last.rest)) None
      (code_statement_fits number.kind name.text) tt)))))

  code_turn_fits : (s : List ℕ) → Keeps v (code_turn s)
  unfolding code_turn
  code_turn_fits s = found_or (Keeps v) (code_at s) (goes None clear_modes.Codes s) (code_at_fits s) tt

  code_token_fits : (kind : Kind) (text s : List ℕ) → Keeps v (code_token kind text s)
  unfolding code_token
  code_token_fits kind text s = search (rules, choose (Keeps {M = ClearMode} v), code_turn_fits s)

  pub clear_fits : (mode : ClearMode) (s : List ℕ) → IfOk (clear_turn v mode s) (Keeps v)
  unfolding clear_turn_by
  clear_fits clear_modes.Outside s = next (Keeps v) (wanted NoEexec s) _ (λ t. clear_outside_fits t.kind t.text t.rest)
  clear_fits clear_modes.Codes s = next (Keeps v) (wanted NoEexec s) _ (λ t. code_token_fits t.kind t.text t.rest)

pub private_room : (v : FontValue) (mode : PrivateMode) (s : List ℕ) (e : Option Stated) (next : PrivateMode) (left : List ℕ)
    → private_turn v mode s ≡ Ok (goes e next left) → HasRoomFor v e
private_room v mode s e next left turn = let fits : FitsOne (Fits v) e = rw turn at (private_fits v mode s) in room_for v e fits

pub clear_room : (v : FontValue) (mode : ClearMode) (s : List ℕ) (e : Option Stated) (next : ClearMode) (left : List ℕ)
    → clear_turn v mode s ≡ Ok (goes e next left) → HasRoomFor v e
clear_room v mode s e next left turn = let fits : FitsOne (Fits v) e = rw turn at (clear_fits v mode s) in room_for v e fits
