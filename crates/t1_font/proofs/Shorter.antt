-- A turn takes a byte or more: its first token does, and what follows takes nothing back.
use Rattle.std.proofs.Common.{◌≡◌, ◌+◌, ℕ, true, false, cond, not, if◌then◌else◌, Option, Some, None, Result, Ok, Err, rules, IfOk, IfSome, List, length, drop, take, nat_lt, refl, arith, ap, sym, ◌∙◌, ◌++◌, append_assoc, length-append, codes}
use Rattle.std.proofs.lemmas.List.{take-append-drop}
use Rattle.t1_scan.specs.declared.token.Kind.{Kind}
use Rattle.t1_scan.specs.Tokens.{Found}
use Rattle.t1_scan.specs.Spelling.{spelled}
use Rattle.t1_scan.proofs.Cover.{shortens}
use Rattle.t1_scan.proofs.TokensFound.{finds_token}
use Rattle.t1_font.specs.declared.key.Key.{Key}
use Rattle.t1_font.specs.Keys.{private_key, clear_key, all_notes}
use Rattle.t1_font.specs.declared.encoding.Encoding.TheVariants.{Custom, Other}
use Rattle.t1_font.specs.declared.mode.ClearMode.{ClearMode}
use Rattle.t1_font.specs.declared.mode.ClearMode.TheVariants as clear_modes
use Rattle.t1_font.specs.declared.mode.PrivateMode.{PrivateMode}
use Rattle.t1_font.specs.declared.mode.PrivateMode.TheVariants.{Outside, Subrs, Glyphs}
use Rattle.t1_font.specs.declared.unread.Unread.{Unread}
use Rattle.t1_font.specs.declared.unread.Unread.TheVariants.{BadCharStrings, BadSubrs, NoEexec, Unclosed}
use Rattle.t1_font.specs.Readings.{◌>>=◌}
use Rattle.t1_font.specs.Tokens.{token_at, wanted, token_ahead, natural, is_number_kind, is_name_kind, name_of, spells, past_word, charstring_at, raw_of, some_raw, ◌>?◌}
use Rattle.t1_font.specs.Fonts.{FontValue, size, glyph}
use Rattle.t1_font.specs.TextTurns.{goes}
use Rattle.t1_font.specs.ClearText.{clear_value, array_at, encoding_at, encoding_turn, clear_outside, code_at, code_turn, code_token, clear_turn, code_statement, begins, clear_turn_by, clear_outside_by}
use Rattle.t1_font.specs.PrivateText.{private_value, subrs_at, subrs_turn, glyphs_at, private_outside, subr_at, dup_turn, subrs_token, glyph_turn, glyphs_token, private_turn, private_turn_by, private_outside_by, subrs_token_by}
use Rattle.t1_font.proofs.Compose.{bind, either, choose, look, which, found_or, ok_is}
use Rattle.t1_font.proofs.Running.{IsBehind, is_behind_rest, Leaves, Shortens}

-- What is left after a token, after bytes, at a place.
abbrev pub RestBehind : List ℕ → Found → Type 0
RestBehind whole t = IsBehind whole t.rest

abbrev pub PairBehind : List ℕ → List ℕ × List ℕ → Type 0
PairBehind whole p = IsBehind whole p.1

abbrev pub Any : {A : Type 0} → A → Type 0
Any x = Unit {0}

any : {A : Type 0} (r : Result A Unread) → IfOk r Any
any (Ok x) = tt
any (Err e) = tt

-- The first token takes a byte or more.
pub token_behind : (s : List ℕ) (t : Found) → token_at s ≡ Ok (Some t) → IsBehind s t.rest
unfolding token_at
token_behind s t h =
    let read = finds_token s t h in
    let begins = read.begins in
    let less = (shortens s t h).shorter in
    let whole : s ≡ (begins.gap ++ spelled read.token) ++ t.rest = begins.whole ∙ sym (append_assoc begins.gap (spelled read.token) t.rest) in
    let e : length s ≡ length ((begins.gap ++ spelled read.token) ++ t.rest) = ap length whole in
    record { front = begins.gap ++ spelled read.token; whole = whole; some = omega (arith, less, e, length-append (begins.gap ++ spelled read.token) t.rest) }

wanted_first : (e : Unread) (s : List ℕ) → IfOk (wanted e s) (RestBehind s)
unfolding wanted
wanted_first e s = elim (token_at s) as (λ r. token_at s ≡ r
    → IfOk (elim r [ Err _ ↦ Err Unclosed | Ok found ↦ elim found [ None ↦ Err e | Some t ↦ Ok t ] ]) (RestBehind s)) [
      | Err x ↦ λ h. tt
      | Ok found ↦ elim found as (λ found. token_at s ≡ Ok found → IfOk (elim found [ None ↦ Err e | Some t ↦ Ok t ]) (RestBehind s)) [
        | None ↦ λ h. tt
        | Some t ↦ λ h. token_behind s t h
      ]
    ] refl

pub ahead_first : (s : List ℕ) → IfSome (token_ahead s) (RestBehind s)
unfolding token_ahead
ahead_first s = elim (token_at s) as (λ r. token_at s ≡ r → IfSome (elim r [ Err _ ↦ None | Ok found ↦ found ]) (RestBehind s)) [
  | Err x ↦ λ h. tt
  | Ok found ↦ elim found as (λ found. token_at s ≡ Ok found → IfSome found (RestBehind s)) [
    | None ↦ λ h. tt
    | Some t ↦ λ h. token_behind s t h
  ]
] refl

further : (whole s : List ℕ) (t : Found) → IsBehind whole s → IsBehind s t.rest → IsBehind whole t.rest
further whole s t lt h = is_behind_rest whole s h.front t.rest lt h.whole

weaken : (s whole : List ℕ) → IsBehind whole s → (r : Result Found Unread) → IfOk r (RestBehind s) → IfOk r (RestBehind whole)
weaken s whole lt (Ok t) h = further whole s t lt h
weaken s whole lt (Err x) h = tt

wanted_less : (e : Unread) (s : List ℕ) (whole : List ℕ) → IsBehind whole s → IfOk (wanted e s) (RestBehind whole)
wanted_less e s whole lt = weaken s whole lt (wanted e s) (wanted_first e s)

weaken_ahead : (s whole : List ℕ) → IsBehind whole s → (r : Option Found) → IfSome r (RestBehind s) → IfSome r (RestBehind whole)
weaken_ahead s whole lt (Some t) h = further whole s t lt h
weaken_ahead s whole lt None h = tt

ahead_less : (s : List ℕ) (whole : List ℕ) → IsBehind whole s → IfSome (token_ahead s) (RestBehind whole)
ahead_less s whole lt = weaken_ahead s whole lt (token_ahead s) (ahead_first s)

past_less : (e : Unread) (word s : List ℕ) (whole : List ℕ) → IsBehind whole s → IfOk (past_word e word s) (IsBehind whole)
unfolding past_word
past_less e word s whole lt = bind (RestBehind whole) (IsBehind whole) (wanted e s) _ (wanted_less e s whole lt)
    (λ t h. either (IsBehind whole) _ (Ok t.rest) (Err e) h tt)

raw_less : (e : Unread) (len : ℕ) (s : List ℕ) (whole : List ℕ) → IsBehind whole s → IfOk (some_raw e (raw_of len s)) (PairBehind whole)
unfolding raw_of
raw_less e len s whole lt =
    elim (nat_lt (length s) (1 + len)) as (λ b. IfOk (some_raw e (cond b None (Some (take len (drop 1 s), drop (1 + len) s)))) (PairBehind whole)) [
      | true ↦ tt
      | false ↦ is_behind_rest whole s (take (1 + len) s) (drop (1 + len) s) lt (sym (take-append-drop (1 + len) s))
    ]

charstring_less : (e : Unread) (s : List ℕ) (whole : List ℕ) → IsBehind whole s → IfOk (charstring_at e s) (PairBehind whole)
unfolding charstring_at
charstring_less e s whole lt =
    bind (RestBehind whole) (PairBehind whole) (wanted e s) _ (wanted_less e s whole lt) (λ count h.
    bind Any (PairBehind whole) (natural e 65535 count.kind) _ (any (natural e 65535 count.kind)) (λ len _.
    bind (RestBehind whole) (PairBehind whole) (wanted e count.rest) _ (wanted_less e count.rest whole h) (λ word k.
    either (PairBehind whole) _ (some_raw e (raw_of len word.rest)) (Err e) (raw_less e len word.rest whole k) tt)))

private_value_less : (k : Option Key) (text s : List ℕ) (whole : List ℕ) → IsBehind whole s → IfOk (private_value all_notes k text s) (Leaves whole)
unfolding private_value
private_value_less None text s whole lt = lt
private_value_less (Some k) text s whole lt =
    bind (RestBehind whole) (Leaves whole) (wanted _ s) _ (wanted_less _ s whole lt) (λ t h.
    search (rules, either, h))

subrs_at_less : (s : List ℕ) (whole : List ℕ) → IsBehind whole s → IfOk (subrs_at s) (Leaves whole)
unfolding subrs_at
subrs_at_less s whole lt =
    bind (RestBehind whole) (Leaves whole) (wanted BadSubrs s) _ (wanted_less BadSubrs s whole lt) (λ t h.
    let counted : IfOk (natural BadSubrs 65535 t.kind >>= λ count. past_word BadSubrs (codes "array") t.rest >>= λ left. Ok
    (goes (Some (size count)) Subrs left)) (Leaves whole) =
    bind Any (Leaves whole) (natural BadSubrs 65535 t.kind) _ (any (natural BadSubrs 65535 t.kind)) (λ count _.
    bind (IsBehind whole) (Leaves whole) (past_word BadSubrs (codes "array") t.rest) (λ left. Ok (goes (Some (size count)) Subrs left))
    (past_less BadSubrs (codes "array") t.rest whole h) (λ left k. k)) in
    search (rules, either, h, counted))

subrs_turn_less : (v : FontValue) (s : List ℕ) (whole : List ℕ) → IsBehind whole s → IfOk (subrs_turn v s) (Leaves whole)
unfolding subrs_turn
subrs_turn_less v s whole lt = search (rules, either, subrs_at_less s whole lt)

glyphs_at_less : (s : List ℕ) (whole : List ℕ) → IsBehind whole s → IfOk (glyphs_at s) (Leaves whole)
unfolding glyphs_at
glyphs_at_less s whole lt =
    bind (RestBehind whole) (Leaves whole) (wanted BadCharStrings s) _ (wanted_less BadCharStrings s whole lt) (λ t h.
    bind Any (Leaves whole) (natural BadCharStrings 65535 t.kind) _ (any (natural BadCharStrings 65535 t.kind)) (λ count _.
    bind (IsBehind whole) (Leaves whole) (past_word BadCharStrings (codes "dict") t.rest) _ (past_less BadCharStrings (codes "dict") t.rest whole h) (λ a i.
    bind (IsBehind whole) (Leaves whole) (past_word BadCharStrings (codes "dup") a) _ (past_less BadCharStrings (codes "dup") a whole i) (λ b j.
    bind (IsBehind whole) (Leaves whole) (past_word BadCharStrings (codes "begin") b) _ (past_less BadCharStrings (codes "begin") b whole j) (λ c k. k)))))

private_outside_less : (v : FontValue) (kind : Kind) (text s : List ℕ) (whole : List ℕ) → IsBehind whole s → IfOk (private_outside v kind text s) (Leaves whole)
unfolding private_outside_by
private_outside_less v kind text s whole lt =
    search (rules, either, lt, subrs_turn_less v s whole lt, glyphs_at_less s whole lt, private_value_less (private_key text) text s whole lt)

subr_at_less : (kind : Kind) (s : List ℕ) (whole : List ℕ) → IsBehind whole s → IfOk (subr_at kind s) (Leaves whole)
unfolding subr_at
subr_at_less kind s whole lt =
    bind Any (Leaves whole) (natural BadSubrs 65534 kind) _ (any (natural BadSubrs 65534 kind)) (λ i _.
    bind (PairBehind whole) (Leaves whole) (charstring_at BadSubrs s) _ (charstring_less BadSubrs s whole lt) (λ b h. h))

dup_turn_less : (s : List ℕ) (whole : List ℕ) → IsBehind whole s → IfOk (dup_turn s) (Leaves whole)
unfolding dup_turn
dup_turn_less s whole lt =
    elim (token_ahead s) as (λ r. IfSome r (RestBehind whole) → IfOk (elim r [
      | None ↦ Ok (goes None Outside s)
      | Some t ↦ if is_number_kind t.kind then subr_at t.kind t.rest else Ok (goes None Outside s)
    ]) (Leaves whole)) [
      | None ↦ λ h. lt
      | Some t ↦ λ h. either (Leaves whole) (is_number_kind t.kind) (subr_at t.kind t.rest) (Ok (goes None Outside s)) (subr_at_less t.kind t.rest whole h) lt
    ] (ahead_less s whole lt)

subrs_token_less : (v : FontValue) (kind : Kind) (text s : List ℕ) (whole : List ℕ) → IsBehind whole s → IfOk (subrs_token v kind text s) (Leaves whole)
unfolding subrs_token_by
subrs_token_less v kind text s whole lt =
    search (rules, either, lt, dup_turn_less s whole lt, private_outside_less v kind text s whole lt)

glyph_turn_less : (v : FontValue) (name s : List ℕ) (whole : List ℕ) → IsBehind whole s → IfOk (glyph_turn v name s) (Leaves whole)
unfolding glyph_turn
glyph_turn_less v name s whole lt =
    let read : IfOk (charstring_at BadCharStrings s >>= λ bytes. Ok (goes (Some (glyph name bytes.0)) Glyphs bytes.1)) (Leaves whole) =
    bind (PairBehind whole) (Leaves whole) (charstring_at BadCharStrings s) (λ bytes. Ok (goes (Some (glyph name bytes.0)) Glyphs bytes.1))
    (charstring_less BadCharStrings s whole lt) (λ b h. h) in
    search (rules, either, read)

glyphs_token_less : (v : FontValue) (kind : Kind) (text s : List ℕ) (whole : List ℕ) → IsBehind whole s → IfOk (glyphs_token v kind text s) (Leaves whole)
unfolding glyphs_token
glyphs_token_less v kind text s whole lt =
    search (rules, either, lt, glyph_turn_less v (name_of text) s whole lt)

private_less : (v : FontValue) (mode : PrivateMode) (s : List ℕ) → IfOk (private_turn v mode s) (Leaves s)
unfolding private_turn_by
private_less v Outside s = bind (RestBehind s) (Leaves s) (wanted BadCharStrings s) _ (wanted_first BadCharStrings s)
    (λ t h. private_outside_less v t.kind t.text t.rest s h)
private_less v Subrs s = bind (RestBehind s) (Leaves s) (wanted BadCharStrings s) _ (wanted_first BadCharStrings s)
    (λ t h. subrs_token_less v t.kind t.text t.rest s h)
private_less v Glyphs s = bind (RestBehind s) (Leaves s) (wanted BadCharStrings s) _ (wanted_first BadCharStrings s)
    (λ t h. glyphs_token_less v t.kind t.text t.rest s h)

pub private_shortens : Shortens private_turn
private_shortens = record { less = private_less }

clear_value_less : (k : Option Key) (text s : List ℕ) (whole : List ℕ) → IsBehind whole s → IfOk (clear_value all_notes k text s) (Leaves whole)
unfolding clear_value
clear_value_less None text s whole lt = lt
clear_value_less (Some k) text s whole lt =
    bind (RestBehind whole) (Leaves whole) (wanted NoEexec s) _ (wanted_less NoEexec s whole lt) (λ t h. h)

array_less : (s : List ℕ) (whole : List ℕ) → IsBehind whole s → IfSome (array_at s) (IsBehind whole)
unfolding array_at
array_less s whole lt = look (RestBehind whole) (IsBehind whole) (token_ahead s) _ (ahead_less s whole lt) (λ t h. search (rules, which, h))

encoding_at_less : (s : List ℕ) (whole : List ℕ) → IsBehind whole s → IfSome (encoding_at s) (Leaves whole)
unfolding encoding_at
encoding_at_less s whole lt =
    look (RestBehind whole) (Leaves whole) (token_ahead s) _ (ahead_less s whole lt) (λ t h.
    let custom : IfSome (array_at t.rest >? λ rest. Some (begins Custom clear_modes.Codes rest)) (Leaves whole) =
    look (IsBehind whole) (Leaves whole) (array_at t.rest) (λ rest. Some (begins Custom clear_modes.Codes rest)) (array_less t.rest whole h) (λ rest k. k) in
    search (rules, which, h, custom))

encoding_turn_less : (s : List ℕ) (whole : List ℕ) → IsBehind whole s → Leaves whole (encoding_turn s)
unfolding encoding_turn
encoding_turn_less s whole lt = found_or (Leaves whole) (encoding_at s) (begins Other clear_modes.Outside s) (encoding_at_less s whole lt) lt

clear_outside_less : (kind : Kind) (text s : List ℕ) (whole : List ℕ) → IsBehind whole s → IfOk (clear_outside kind text s) (Leaves whole)
unfolding clear_outside_by
clear_outside_less kind text s whole lt =
    search (rules, either, lt, ok_is (Leaves whole) (encoding_turn s) (encoding_turn_less s whole lt), clear_value_less (clear_key text) text s whole lt)

code_at_less : (s : List ℕ) (whole : List ℕ) → IsBehind whole s → IfSome (code_at s) (Leaves whole)
unfolding code_at
code_at_less s whole lt =
    look (RestBehind whole) (Leaves whole) (token_ahead s) _ (ahead_less s whole lt) (λ number h.
    which (Leaves whole) (not (is_number_kind number.kind)) None (token_ahead number.rest >? λ name.
    if not (is_name_kind name.kind) then None else (
    token_ahead name.rest >? λ last.
    if spells (codes "put") last.kind last.text
    then Some (goes (Some (code_statement number.kind name.text)) clear_modes.Codes last.rest) else None)) tt
    (look (RestBehind whole) (Leaves whole) (token_ahead number.rest) _ (ahead_less number.rest whole h) (λ name i.
    which (Leaves whole) (not (is_name_kind name.kind)) None (token_ahead name.rest >? λ last.
    if spells (codes "put") last.kind last.text
    then Some (goes (Some (code_statement number.kind name.text)) clear_modes.Codes last.rest) else None) tt
    (look (RestBehind whole) (Leaves whole) (token_ahead name.rest) _ (ahead_less name.rest whole i) (λ last j.
    which (Leaves whole) (spells (codes "put") last.kind last.text)
    (Some (goes (Some (code_statement number.kind name.text)) clear_modes.Codes last.rest)) None j tt)))))

code_turn_less : (s : List ℕ) (whole : List ℕ) → IsBehind whole s → Leaves whole (code_turn s)
unfolding code_turn
code_turn_less s whole lt = found_or (Leaves whole) (code_at s) (goes None clear_modes.Codes s) (code_at_less s whole lt) lt

code_token_less : (kind : Kind) (text s : List ℕ) (whole : List ℕ) → IsBehind whole s → Leaves whole (code_token kind text s)
unfolding code_token
code_token_less kind text s whole lt = search (rules, choose (Leaves {M = ClearMode} whole), lt, code_turn_less s whole lt)

clear_less : (v : FontValue) (mode : ClearMode) (s : List ℕ) → IfOk (clear_turn v mode s) (Leaves s)
unfolding clear_turn_by
clear_less v clear_modes.Outside s = bind (RestBehind s) (Leaves s) (wanted NoEexec s) _ (wanted_first NoEexec s)
    (λ t h. clear_outside_less t.kind t.text t.rest s h)
clear_less v clear_modes.Codes s = bind (RestBehind s) (Leaves s) (wanted NoEexec s) _ (wanted_first NoEexec s)
    (λ t h. code_token_less t.kind t.text t.rest s h)

pub clear_shortens : Shortens clear_turn
clear_shortens = record { less = clear_less }
