-- Noted keys change their own values, and nothing else.
use Rattle.std.proofs.Common.{◌≡◌, ◌&&◌, ℕ, zero, suc, Bool, true, false, not, cond, if◌then◌else◌, nat_le, Option, Some, None, Result, Ok, Err, IfSome, List, [], ◌∷◌, ◌++◌, length, flat_map, refl, sym, ap, subst, append-nil, append_assoc, rules, ◌∙◌, codes, is_some}
use Rattle.std.proofs.lemmas.Bool.{false≢true}
use Rattle.std.proofs.lemmas.List.Elements.{filter-append}
use Rattle.t1_scan.specs.declared.token.Kind.{Kind}
use Rattle.t1_scan.specs.Texts.{Lexeme}
use Rattle.t1_scan.specs.Tokens.{Found}
use Rattle.t1_font.specs.declared.encoding.Encoding.TheVariants.{Custom, Other}
use Rattle.t1_font.specs.declared.key.Key.{Key}
use Rattle.t1_font.specs.declared.key.Key.TheVariants.{FontType, PaintType, UniqueId, PrivateUniqueId, Password, MinFeature, LenIv, BlueValues, OtherBlues, FamilyBlues, FamilyOtherBlues, BlueScale, BlueShift, BlueFuzz, StdHw, StdVw, StemSnapH, StemSnapV, FontMatrix, FontBBox, Xuid, LanguageGroup}
use Rattle.t1_font.specs.declared.mode.ClearMode.{ClearMode}
use Rattle.t1_font.specs.declared.mode.ClearMode.TheVariants as clear_modes
use Rattle.t1_font.specs.declared.mode.PrivateMode.{PrivateMode}
use Rattle.t1_font.specs.declared.mode.PrivateMode.TheVariants.{Outside, Subrs, Glyphs}
use Rattle.t1_font.specs.declared.unread.Unread.{Unread}
use Rattle.t1_font.specs.declared.unread.Unread.TheVariants.{BadCharStrings, BadSubrs, NoEexec}
use Rattle.t1_font.specs.ClearText.{array_at, begins, begins_as_font, clear_of_by, clear_outside_by, clear_turn_by, clear_value, code_at, code_statement, code_token, code_turn, encoding_at, encoding_turn}
use Rattle.t1_font.specs.Fonts.{FontValue, Marks, Stated, plain, encoding, code, bad_code, size, subr, glyph, glyph_of, last_of, size_of, table_of, value_of}
use Rattle.t1_font.specs.Keys.{all_notes, no_notes, clear_key, clear_note, index_of, private_key, private_note, same_name, taken_keys}
use Rattle.t1_font.specs.Laws.Notes.{ClearStaysWithoutNotes, PrivateStaysWithoutNotes, ValuesStayWithoutNotes, is_note, read_without, unnoted, without_notes}
use Rattle.t1_font.specs.Notes.{noted}
use Rattle.t1_font.specs.PrivateText.{dup_turn, glyph_turn, glyphs_at, glyphs_token, has_key, is_blank_text, is_len_iv, is_len_iv_key, private_of_by, private_outside_by, private_turn_by, private_value, subr_at, subrs_at, subrs_token_by, subrs_turn}
use Rattle.t1_font.specs.Puts.{put}
use Rattle.t1_font.specs.Readings.{◌>>=◌}
use Rattle.t1_font.specs.TextTurns.{Reader, TextTurn, goes, over, pass, stated_in, stated_within, with_one}
use Rattle.t1_font.specs.Tokens.{charstring_at, inside_of, is_array_kind, is_name_kind, is_number_kind, is_word_kind, name_of, natural, past_word, spells, token_ahead, wanted, whole_up_to, ◌>?◌}
use Rattle.t1_font.proofs.Compose.{choose, found_or, glance, which}
use Rattle.t1_font.proofs.Running.{follow}
use Rattle.t1_font.proofs.Stating.{value_step}

-- ---- turns

-- What a turn states, unless it is a noted key.
abbrev unless_note : Option Stated → Option Stated
unless_note None = None
unless_note (Some e) = if is_note e then None else Some e

abbrev turn_without : {M : Type 0} → TextTurn M → TextTurn M
turn_without (over rest) = over rest
turn_without (goes e mode left) = goes (unless_note e) mode left

abbrev all_without : {M : Type 0} → Result (TextTurn M) Unread → Result (TextTurn M) Unread
all_without (Ok t) = Ok (turn_without t)
all_without (Err e) = Err e

-- A key that isn't noted.
abbrev IsTaken : Key → Type 0
IsTaken k = nat_le taken_keys (index_of k) ≡ false

-- Two ways, each of which stays.
either_stays : {M : Type 0} (b b' : Bool) (x y x' y' : Result (TextTurn M) Unread) → b ≡ b' → x ≡ all_without x' → y ≡ all_without y'
    → cond b x y ≡ all_without (cond b' x' y')
either_stays true b' x y x' y' same h k = rw (sym same) h
either_stays false b' x y x' y' same h k = rw (sym same) k

-- What follows a token.
then_stays : {M : Type 0} {A : Type 0} (r : Result A Unread) (f g : A → Result (TextTurn M) Unread) → ((x : A) → f x ≡ all_without (g x))
    → (r >>= f) ≡ all_without (r >>= g)
then_stays (Ok x) f g h = h x
then_stays (Err e) f g h = refl

-- The keys that are taken, and those that are noted.
clear_taken : (text : List ℕ) → IfSome (clear_key text) IsTaken
unfolding clear_key
clear_taken text = search (rules, which IsTaken)

private_taken : (text : List ℕ) → IfSome (private_key text) IsTaken
unfolding private_key
private_taken text = search (rules, which IsTaken)

abbrev IsNoted : Key → Type 0
IsNoted k = nat_le taken_keys (index_of k) ≡ true

clear_noted : (text : List ℕ) → IfSome (clear_note text) IsNoted
unfolding clear_note
clear_noted text = search (rules, which IsNoted)

private_noted : (text : List ℕ) → IfSome (private_note text) IsNoted
unfolding private_note
private_noted text = search (rules, which IsNoted)

note_goes : (k : Option Key) (s : List ℕ) → IfSome k IsNoted → noted None s ≡ unless_note (noted k s)
unfolding noted
note_goes None s h = refl
note_goes (Some k) s h = by_ahead (token_ahead s)
  where
    by_ahead : (r : Option Found) → None ≡ unless_note (r >? λ t. Some (plain k (record { kind = t.kind; text = t.text })))
    by_ahead None = refl
    by_ahead (Some t) = rw h refl

-- ---- the clear text

-- A turn that states no noted key.
abbrev Stays : {M : Type 0} → TextTurn M → Type 0
Stays t = t ≡ turn_without t

encoding_at_stays : (s : List ℕ) → IfSome (encoding_at s) Stays
unfolding encoding_at
encoding_at_stays s =
    glance Stays (token_ahead s) _ (λ t.
    let custom : IfSome (array_at t.rest >? λ rest. Some (begins Custom clear_modes.Codes rest)) Stays =
    glance Stays (array_at t.rest) (λ rest. Some (begins Custom clear_modes.Codes rest)) (λ rest. refl) in
    search (rules, which, custom))

encoding_stays : (s : List ℕ) → Stays (encoding_turn s)
unfolding encoding_turn
encoding_stays s = found_or Stays (encoding_at s) (begins Other clear_modes.Outside s) (encoding_at_stays s) refl

code_statement_stays : (kind : Kind) (text rest : List ℕ) → Stays (goes (Some (code_statement kind text)) clear_modes.Codes rest)
unfolding code_statement
code_statement_stays kind text rest = elim (whole_up_to 255 kind) as
    (λ r. Stays (goes (Some (elim r [ Some n ↦ code n (name_of text) | None ↦ bad_code ])) clear_modes.Codes rest)) [
      | Some n ↦ refl
      | None ↦ refl
    ]

code_at_stays : (s : List ℕ) → IfSome (code_at s) Stays
unfolding code_at
code_at_stays s =
    glance Stays (token_ahead s) _ (λ number.
    which Stays (not (is_number_kind number.kind)) None _ tt
    (glance Stays (token_ahead number.rest) _ (λ name.
    which Stays (not (is_name_kind name.kind)) None _ tt
    (glance Stays (token_ahead name.rest) _ (λ last.
    which Stays (spells (codes "put") last.kind last.text) (Some (goes (Some (code_statement number.kind name.text)) clear_modes.Codes last.rest)) None
    (code_statement_stays number.kind name.text last.rest) tt)))))

code_turn_stays : (s : List ℕ) → Stays (code_turn s)
unfolding code_turn
code_turn_stays s = found_or Stays (code_at s) (goes None clear_modes.Codes s) (code_at_stays s) refl

code_token_stays : (kind : Kind) (text s : List ℕ) → Stays (code_token kind text s)
unfolding code_token
code_token_stays kind text s = search (rules, choose (Stays {M = ClearMode}), code_turn_stays s)

clear_value_stays : (k : Option Key) (text s : List ℕ) → IfSome k IsTaken
    → clear_value no_notes k text s ≡ all_without (clear_value all_notes k text s)
unfolding clear_value
clear_value_stays None text s h = ap (λ e. Ok (goes e clear_modes.Outside s)) (note_goes (clear_note text) s (clear_noted text))
clear_value_stays (Some k) text s h = then_stays (wanted NoEexec s) _ _ (λ t. rw h refl)

clear_outside_stays : (kind : Kind) (text s : List ℕ) → clear_outside_by no_notes kind text s ≡ all_without (clear_outside_by all_notes kind text s)
unfolding clear_outside_by
clear_outside_stays kind text s =
    either_stays (spells (codes "eexec") kind text) _ _ _ _ _ refl refl
    (either_stays (not (is_name_kind kind)) _ _ _ _ _ refl refl
    (either_stays (same_name text (codes "/WeightVector")) _ _ _ _ _ refl refl
    (either_stays (same_name text (codes "/Encoding")) _ _ _ _ _ refl (ap Ok (encoding_stays s))
    (clear_value_stays (clear_key text) text s (clear_taken text)))))

clear_turn_stays : (w v : FontValue) (mode : ClearMode) (s : List ℕ) → clear_turn_by no_notes w mode s ≡ all_without (clear_turn_by all_notes v mode s)
unfolding clear_turn_by
clear_turn_stays w v clear_modes.Outside s = then_stays (wanted NoEexec s) _ _ (λ t. clear_outside_stays t.kind t.text t.rest)
clear_turn_stays w v clear_modes.Codes s = then_stays (wanted NoEexec s) _ _ (λ t. ap Ok (code_token_stays t.kind t.text t.rest))

-- ---- the private text

private_value_stays : (k : Option Key) (text s : List ℕ) → IfSome k IsTaken
    → private_value no_notes k text s ≡ all_without (private_value all_notes k text s)
unfolding private_value
private_value_stays None text s h = ap (λ e. Ok (goes e Outside s)) (note_goes (private_note text) s (private_noted text))
private_value_stays (Some k) text s h =
    then_stays (wanted _ s) _ _ (λ t. either_stays (is_len_iv_key k && not (is_len_iv t.kind)) _ _ _ _ _ refl refl (rw h refl))

subrs_at_stays : (s : List ℕ) → subrs_at s ≡ all_without (subrs_at s)
unfolding subrs_at
subrs_at_stays s =
    then_stays (wanted BadSubrs s) _ _ (λ t.
    either_stays (is_array_kind t.kind) _ _ _ _ _ refl
    (either_stays (is_blank_text (inside_of t.text)) _ _ _ _ _ refl refl refl)
    (then_stays (natural BadSubrs 65535 t.kind) _ _ (λ n. then_stays (past_word BadSubrs (codes "array") t.rest) _ _ (λ left. refl))))

glyphs_at_stays : (s : List ℕ) → glyphs_at s ≡ all_without (glyphs_at s)
unfolding glyphs_at
glyphs_at_stays s =
    then_stays (wanted BadCharStrings s) _ _ (λ t.
    then_stays (natural BadCharStrings 65535 t.kind) _ _ (λ n.
    then_stays (past_word BadCharStrings (codes "dict") t.rest) _ _ (λ a.
    then_stays (past_word BadCharStrings (codes "dup") a) _ _ (λ b.
    then_stays (past_word BadCharStrings (codes "begin") b) _ _ (λ c. refl)))))

subr_at_stays : (kind : Kind) (s : List ℕ) → subr_at kind s ≡ all_without (subr_at kind s)
unfolding subr_at
subr_at_stays kind s = then_stays (natural BadSubrs 65534 kind) _ _ (λ n. then_stays (charstring_at BadSubrs s) _ _ (λ bytes. refl))

dup_turn_stays : (s : List ℕ) → dup_turn s ≡ all_without (dup_turn s)
unfolding dup_turn
dup_turn_stays s = by_ahead (token_ahead s)
  where
    dup_by : Option Found → Result (TextTurn PrivateMode) Unread
    dup_by r = elim r [
      | None ↦ Ok (pass Outside s)
      | Some t ↦ if is_number_kind t.kind then subr_at t.kind t.rest else Ok (pass Outside s)
    ]

    by_ahead : (r : Option Found) → dup_by r ≡ all_without (dup_by r)
    by_ahead None = refl
    by_ahead (Some t) = either_stays (is_number_kind t.kind) _ _ _ _ _ refl (subr_at_stays t.kind t.rest) refl

-- Of the value of what was stated before, two parts say how the text is read.
module _ (w v : FontValue) (size : w.size ≡ v.size) (glyphs : w.glyphs ≡ v.glyphs) where
  subrs_turn_stays : (s : List ℕ) → subrs_turn w s ≡ all_without (subrs_turn v s)
  unfolding subrs_turn
  subrs_turn_stays s = either_stays (is_some w.size) (is_some v.size) _ _ _ _ (ap is_some size) refl (subrs_at_stays s)

  private_outside_stays : (kind : Kind) (text s : List ℕ)
      → private_outside_by no_notes w kind text s ≡ all_without (private_outside_by all_notes v kind text s)
  unfolding private_outside_by
  private_outside_stays kind text s =
      either_stays (not (is_name_kind kind)) _ _ _ _ _ refl refl
      (either_stays (same_name text (codes "/Subrs")) _ _ _ _ _ refl (subrs_turn_stays s)
      (either_stays (same_name text (codes "/CharStrings")) _ _ _ _ _ refl (glyphs_at_stays s)
      (private_value_stays (private_key text) text s (private_taken text))))

  subrs_token_stays : (kind : Kind) (text s : List ℕ)
      → subrs_token_by no_notes w kind text s ≡ all_without (subrs_token_by all_notes v kind text s)
  unfolding subrs_token_by
  subrs_token_stays kind text s =
      either_stays (spells (codes "dup") kind text) _ _ _ _ _ refl (dup_turn_stays s)
      (either_stays (is_word_kind kind) _ _ _ _ _ refl refl (private_outside_stays kind text s))

  glyph_turn_stays : (name s : List ℕ) → glyph_turn w name s ≡ all_without (glyph_turn v name s)
  unfolding glyph_turn
  glyph_turn_stays name s =
      either_stays (nat_le 65535 (length w.glyphs) && not (has_key same_name w.glyphs name)) _ _ _ _ _
      (ap (λ g. nat_le 65535 (length g) && not (has_key same_name g name)) glyphs) refl
      (then_stays (charstring_at BadCharStrings s) _ _ (λ bytes. refl))

  glyphs_token_stays : (kind : Kind) (text s : List ℕ) → glyphs_token w kind text s ≡ all_without (glyphs_token v kind text s)
  unfolding glyphs_token
  glyphs_token_stays kind text s =
      either_stays (spells (codes "end") kind text) _ _ _ _ _ refl refl
      (either_stays (is_word_kind kind) _ _ _ _ _ refl refl
      (either_stays (is_name_kind kind) _ _ _ _ _ refl (glyph_turn_stays (name_of text) s) refl))

  private_turn_stays : (mode : PrivateMode) (s : List ℕ) → private_turn_by no_notes w mode s ≡ all_without (private_turn_by all_notes v mode s)
  unfolding private_turn_by
  private_turn_stays Outside s = then_stays (wanted BadCharStrings s) _ _ (λ t. private_outside_stays t.kind t.text t.rest)
  private_turn_stays Subrs s = then_stays (wanted BadCharStrings s) _ _ (λ t. subrs_token_stays t.kind t.text t.rest)
  private_turn_stays Glyphs s = then_stays (wanted BadCharStrings s) _ _ (λ t. glyphs_token_stays t.kind t.text t.rest)

-- ---- texts

with_stays : (before : List Stated) (e : Option Stated) → with_one (without_notes before) (unless_note e) ≡ without_notes (with_one before e)
with_stays before None = refl
with_stays before (Some e) =
    by_note (is_note e) ∙ sym (filter-append (λ s. not (is_note s)) before (e ∷ []))
  where
    by_note : (b : Bool) → with_one (without_notes before) (if b then None else Some e)
        ≡ without_notes before ++ (if not b then e ∷ [] else [])
    by_note true = sym (append-nil (without_notes before))
    by_note false = refl

module _ {M : Type 0} (turn other : Reader M) (ended : Unread) (marks : Marks)
    (stays : (before : List Stated) (mode : M) (s : List ℕ)
    → turn (value_of marks (without_notes before)) mode s ≡ all_without (other (value_of marks before) mode s)) where
  text_stays : (n : ℕ) (before : List Stated) (mode : M) (s : List ℕ)
      → stated_within turn ended marks n (without_notes before) mode s ≡ read_without (stated_within other ended marks n before mode s)
  unfolding stated_within
  text_stays zero before mode s = refl
  text_stays (suc n) before mode s =
      ap (λ r. r >>= follow (stated_within turn ended marks n) (without_notes before)) (stays before mode s)
      ∙ by_turn (λ es next left. text_stays n es next left) (other (value_of marks before) mode s)
    where
      by_turn : ((es : List Stated) (next : M) (left : List ℕ)
          → stated_within turn ended marks n (without_notes es) next left ≡ read_without (stated_within other ended marks n es next left))
          → (r : Result (TextTurn M) Unread) → (all_without r >>= follow (stated_within turn ended marks n) (without_notes before))
          ≡ read_without (r >>= follow (stated_within other ended marks n) before)
      by_turn more (Err e) = refl
      by_turn more (Ok (over rest)) = refl
      by_turn more (Ok (goes e next left)) =
          ap (λ es. stated_within turn ended marks n es next left) (with_stays before e) ∙ more (with_one before e) next left

-- Parts of the value that noted keys leave alone.
none_of : {A : Type 0} (f : Stated → List A) → ((k : Key) (t : Lexeme) → f (plain k t) ≡ []) → (es : List Stated)
    → flat_map f (without_notes es) ≡ flat_map f es
none_of f none [] = refl
none_of f none (e ∷ es) = by_note (none_of f none es) (is_note e) refl
  where
    of_note : (e : Stated) → is_note e ≡ true → f e ≡ []
    of_note (plain k t) is = none k t
    of_note (encoding form) is = absurd (false≢true is)
    of_note (code n name) is = absurd (false≢true is)
    of_note bad_code is = absurd (false≢true is)
    of_note (size n) is = absurd (false≢true is)
    of_note (subr n bytes) is = absurd (false≢true is)
    of_note (glyph name bytes) is = absurd (false≢true is)

    by_note : flat_map f (without_notes es) ≡ flat_map f es → (b : Bool) → is_note e ≡ b
        → flat_map f (without_notes (e ∷ es)) ≡ f e ++ flat_map f es
    by_note more false is = rw is (ap (λ l. f e ++ l) more)
    by_note more true is = rw is (more ∙ ap (λ l. l ++ flat_map f es) (sym (of_note e is)))

same_size : (marks : Marks) (es : List Stated) → (value_of marks (without_notes es)).size ≡ (value_of marks es).size
unfolding value_of
same_size marks es = ap last_of (none_of size_of (λ k t. refl) es)

same_glyphs : (marks : Marks) (es : List Stated) → (value_of marks (without_notes es)).glyphs ≡ (value_of marks es).glyphs
unfolding value_of
same_glyphs marks es = ap (λ ps. table_of same_name [] ps) (none_of glyph_of (λ k t. refl) es)

pub clear_stays : ClearStaysWithoutNotes
unfolding clear_of_by
clear_stays marks s = by_front (begins_as_font s)
  where
    by_front : (b : Bool) → (if b then stated_in (clear_turn_by no_notes) NoEexec marks [] clear_modes.Outside s else Err NoEexec)
        ≡ read_without (if b then stated_in (clear_turn_by all_notes) NoEexec marks [] clear_modes.Outside s else Err NoEexec)
    by_front true = text_stays (clear_turn_by no_notes) (clear_turn_by all_notes) NoEexec marks
        (λ before mode s. clear_turn_stays (value_of marks (without_notes before)) (value_of marks before) mode s)
        (suc (length s)) [] clear_modes.Outside s
    by_front false = refl

pub private_stays : PrivateStaysWithoutNotes
unfolding private_of_by
private_stays marks before s = text_stays (private_turn_by no_notes) (private_turn_by all_notes) BadCharStrings marks
    (λ es mode s. private_turn_stays (value_of marks (without_notes es)) (value_of marks es) (same_size marks es) (same_glyphs marks es) mode s)
    (suc (length s)) before Outside s

-- ---- values

-- One statement more, unless it is a noted key.
abbrev put_unless : FontValue → Stated → FontValue
put_unless v e = if is_note e then v else put v e

module _ (marks : Marks) where
  put_stays : (es : List Stated) (e : Stated) → put_unless (unnoted (value_of marks es)) e ≡ unnoted (put (value_of marks es) e)
  unfolding value_of
  put_stays es (plain FontType t) = refl
  put_stays es (plain PaintType t) = refl
  put_stays es (plain UniqueId t) = refl
  put_stays es (plain PrivateUniqueId t) = refl
  put_stays es (plain Password t) = refl
  put_stays es (plain MinFeature t) = refl
  put_stays es (plain LenIv t) = refl
  put_stays es (plain BlueValues t) = refl
  put_stays es (plain OtherBlues t) = refl
  put_stays es (plain FamilyBlues t) = refl
  put_stays es (plain FamilyOtherBlues t) = refl
  put_stays es (plain BlueScale t) = refl
  put_stays es (plain BlueShift t) = refl
  put_stays es (plain BlueFuzz t) = refl
  put_stays es (plain StdHw t) = refl
  put_stays es (plain StdVw t) = refl
  put_stays es (plain StemSnapH t) = refl
  put_stays es (plain StemSnapV t) = refl
  put_stays es (plain FontMatrix t) = refl
  put_stays es (plain FontBBox t) = refl
  put_stays es (plain Xuid t) = refl
  put_stays es (plain LanguageGroup t) = refl
  put_stays es (encoding form) = refl
  put_stays es (code n name) = refl
  put_stays es bad_code = refl
  put_stays es (size n) = refl
  put_stays es (subr n bytes) = refl
  put_stays es (glyph name bytes) = refl

  abbrev ValueStays : List Stated → Type 0
  ValueStays es = value_of marks (without_notes es) ≡ unnoted (value_of marks es)

  one_stays : (es : List Stated) (e : Stated) → ValueStays es → ValueStays (es ++ e ∷ [])
  one_stays es e h =
      ap (value_of marks) (sym (with_stays es (Some e)))
      ∙ by_note (is_note e)
      ∙ ap (λ v. put_unless v e) h
      ∙ put_stays es e
      ∙ ap unnoted (sym (value_step marks es e))
    where
      by_note : (b : Bool) → value_of marks (with_one (without_notes es) (if b then None else Some e))
          ≡ (if b then value_of marks (without_notes es) else put (value_of marks (without_notes es)) e)
      by_note true = refl
      by_note false = value_step marks (without_notes es) e

  all_stay : (before es : List Stated) → ValueStays before → ValueStays (before ++ es)
  all_stay before [] h = subst ValueStays (sym (append-nil before)) h
  all_stay before (e ∷ es) h =
      subst ValueStays (append_assoc before (e ∷ []) es) (all_stay (before ++ e ∷ []) es (one_stays before e h))

  nothing_stays : ValueStays []
  unfolding value_of
  nothing_stays = refl

pub values_stay : ValuesStayWithoutNotes
values_stay marks es = all_stay marks [] es (nothing_stays marks)
