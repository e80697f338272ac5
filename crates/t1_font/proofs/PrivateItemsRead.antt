-- What is before and after the Subrs of a private text is read as what it states.
use Rattle.std.proofs.Common.{◌≡◌, ◌&&◌, ℕ, Bool, true, false, not, if◌then◌else◌, Option, Some, None, Result, Ok, is_some, pos, ◌*◌, List, [], ◌∷◌, ◌++◌, flat_map, refl, ap, sym, ◌∙◌, append_assoc, append-nil, codes, inl, inr}
use Rattle.std.proofs.lemmas.Bool.{cases_Bool}
use Rattle.std.proofs.lemmas.List.Elements.{All-head, All-tail}
use Rattle.std.specs.List.{All}
use Rattle.t1_scan.specs.declared.token.Kind.{Kind}
use Rattle.t1_scan.specs.declared.token.Kind.TheVariants.{Name, Number}
use Rattle.t1_scan.specs.Spelling.{Plain, name, spelled, meant}
use Rattle.t1_scan.specs.Texts.{BeginsWith, lexeme_of}
use Rattle.t1_font.specs.declared.key.Key.{Key}
use Rattle.t1_font.specs.declared.key.Key.TheVariants.{LenIv}
use Rattle.t1_font.specs.declared.mode.PrivateMode.{PrivateMode}
use Rattle.t1_font.specs.declared.mode.PrivateMode.TheVariants.{Outside, Subrs}
use Rattle.t1_font.specs.declared.unread.Unread.{Unread}
use Rattle.t1_font.specs.declared.unread.Unread.TheVariants.{BadCharStrings, BadLenIv}
use Rattle.t1_font.specs.Keys.{all_notes, private_key, private_note, same_name}
use Rattle.t1_font.specs.Tokens.{is_word_kind, is_name_kind}
use Rattle.t1_font.specs.Fonts.{Stated, Marks, FontValue, value_of, plain}
use Rattle.t1_font.specs.TextTurns.{TextRead, goes, with_one, stated_in}
use Rattle.t1_font.specs.PrivateText.{is_len_iv, is_len_iv_key, private_value, private_outside, subrs_token, private_turn, private_turn_by, private_outside_by, subrs_token_by}
use Rattle.t1_font.specs.Laws.Written.{IsWritten, is_word_of}
use Rattle.t1_font.specs.Laws.UsualPrivateText.{PrivateItem, IsPrivateNote, key, noted_key, other_name, other_token, private_pieces, private_states, IsLenIv, FitsKey, IsOtherPrivateName, IsPrivateItem, IsNoDup}
use Rattle.t1_font.proofs.Shorter.{private_shortens}
use Rattle.t1_font.proofs.Steps.{goes_on}
use Rattle.t1_font.proofs.WrittenRead.{is_other, noted_is, nothing_noted, wanted_is, last_token, parts, whole_number, whole_up_to_kind}
use Rattle.t1_scan.specs.Numbers.{billion}
use Rattle.t1_font.specs.Notes.{noted}

-- A token outside, and among the Subrs.
pub outside : (v : FontValue) (s : List ℕ) (t : Plain) (left : List ℕ) → BeginsWith s t left
    → private_turn v Outside s ≡ private_outside v (meant t) (spelled t) left
unfolding private_turn_by
outside v s t left h = rw (wanted_is BadCharStrings s t left h) refl

pub among : (v : FontValue) (s : List ℕ) (t : Plain) (left : List ℕ) → BeginsWith s t left → private_turn v Subrs s ≡ subrs_token v (meant t) (spelled t) left
unfolding private_turn_by
among v s t left h = rw (wanted_is BadCharStrings s t left h) refl

-- A name is no word, so it is read among the Subrs as outside.
pub name_among : (v : FontValue) (s run left : List ℕ) → BeginsWith s (name run) left → private_turn v Subrs s ≡ private_outside v Name (47 ∷ run) left
unfolding subrs_token_by
name_among v s run left h = among v s (name run) left h

-- The names of another meaning are no plain keys.
pub no_subrs_key : private_key (codes "/Subrs") ≡ None
unfolding private_key
no_subrs_key = refl

pub no_glyphs_key : private_key (codes "/CharStrings") ≡ None
unfolding private_key
no_glyphs_key = refl

pub name_outside : (v : FontValue) (text rest : List ℕ) → same_name text (codes "/Subrs") ≡ false → same_name text (codes "/CharStrings") ≡ false
    → private_outside v Name text rest ≡ private_value all_notes (private_key text) text rest
unfolding private_outside_by
name_outside v text rest a b = rw (a, b) refl

-- A lenIV from -1 to 64 is one.
len_iv_is : (kind : Kind) → IsLenIv kind → is_len_iv kind ≡ true
unfolding is_len_iv
len_iv_is kind (inl e) = rw e refl
len_iv_is kind (inr h) =
    rw h.2 (ap is_some (whole_up_to_kind 64 h.0 (Number (pos (h.0 * billion))) (whole_number h.0) h.1))

fits : (k : Key) (kind : Kind) → FitsKey k kind → (is_len_iv_key k && not (is_len_iv kind)) ≡ false
fits LenIv kind h = rw (len_iv_is kind h) refl
fits _ kind h = refl

value_is : (k : Key) (text s : List ℕ) (value : Plain) (left : List ℕ) → FitsKey k (meant value) → BeginsWith s value left
    → private_value all_notes (Some k) text s ≡ Ok (goes (Some (plain k (lexeme_of value))) Outside left)
unfolding private_value
value_is k text s value left fit h =
    rw (wanted_is (if is_len_iv_key k then BadLenIv else BadCharStrings) s value left h, fits k (meant value) fit) refl

none_is : (text s : List ℕ) → private_value all_notes None text s ≡ Ok (goes (noted (private_note text) s) Outside s)
unfolding private_value
none_is text s = refl

key_is : (v : FontValue) (k : Key) (run s : List ℕ) (value : Plain) (left : List ℕ) → private_key (47 ∷ run) ≡ Some k → FitsKey k (meant value)
    → BeginsWith s value left → private_outside v Name (47 ∷ run) s ≡ Ok (goes (Some (plain k (lexeme_of value))) Outside left)
key_is v k run s value left is fit h =
    name_outside v (47 ∷ run) s (is_other private_key (47 ∷ run) (codes "/Subrs") k no_subrs_key is)
    (is_other private_key (47 ∷ run) (codes "/CharStrings") k no_glyphs_key is)
    ∙ ap (λ o. private_value all_notes o (47 ∷ run) s) is
    ∙ value_is k (47 ∷ run) s value left fit h

name_is : (v : FontValue) (run s : List ℕ) → IsOtherPrivateName run → private_outside v Name (47 ∷ run) s ≡ Ok (goes None Outside s)
name_is v run s is =
    name_outside v (47 ∷ run) s is.not_subrs is.not_glyphs
    ∙ ap (λ o. private_value all_notes o (47 ∷ run) s) is.no_key
    ∙ none_is (47 ∷ run) s
    ∙ ap (λ k. Ok (goes (noted k s) Outside s)) is.no_note
    ∙ ap (λ e. Ok (goes e Outside s)) (nothing_noted s)

note_is : (v : FontValue) (k : Key) (run s : List ℕ) (value : Plain) (left : List ℕ) → IsPrivateNote k run → BeginsWith s value left
    → private_outside v Name (47 ∷ run) s ≡ Ok (goes (Some (plain k (lexeme_of value))) Outside s)
note_is v k run s value left is h =
    name_outside v (47 ∷ run) s is.not_subrs is.not_glyphs
    ∙ ap (λ o. private_value all_notes o (47 ∷ run) s) is.no_key
    ∙ none_is (47 ∷ run) s
    ∙ ap (λ k. Ok (goes (noted k s) Outside s)) is.note
    ∙ ap (λ e. Ok (goes e Outside s)) (noted_is k s value left h)

token_outside : (v : FontValue) (kind : Kind) (text rest : List ℕ) → is_name_kind kind ≡ false → private_outside v kind text rest ≡ Ok (goes None Outside rest)
unfolding private_outside_by
token_outside v kind text rest is = rw is refl

-- Among the Subrs a word leaves reading there, and any other token ends them.
word_among : (v : FontValue) (t : Plain) (rest : List ℕ) → is_word_of (codes "dup") t ≡ false → is_word_kind (meant t) ≡ true
    → subrs_token v (meant t) (spelled t) rest ≡ Ok (goes None Subrs rest)
unfolding subrs_token_by
word_among v t rest other is = rw (other, is) refl

token_among : (v : FontValue) (t : Plain) (rest : List ℕ) → is_word_of (codes "dup") t ≡ false → is_word_kind (meant t) ≡ false
    → subrs_token v (meant t) (spelled t) rest ≡ private_outside v (meant t) (spelled t) rest
unfolding subrs_token_by
token_among v t rest other is = rw (other, is) refl

-- Reading goes on outside, or still among the Subrs.
abbrev pub mode_of : Bool → PrivateMode
mode_of true = Subrs
mode_of false = Outside

module _ (marks : Marks) where
  abbrev pub read : List Stated → PrivateMode → List ℕ → Result TextRead Unread
  read before mode s = stated_in private_turn BadCharStrings marks before mode s

  pub on : (before : List Stated) (mode : PrivateMode) (s : List ℕ) (e : Option Stated) (next : PrivateMode) (left : List ℕ)
      → private_turn (value_of marks before) mode s ≡ Ok (goes e next left) → read before mode s ≡ read (with_one before e) next left
  on before mode s e next left h = goes_on private_turn BadCharStrings private_shortens marks before mode s e next left h

  pub nothing_more : (before : List Stated) (mode : PrivateMode) (s : List ℕ) → read before mode s ≡ read (before ++ []) mode s
  nothing_more before mode s = ap (λ es. read es mode s) (sym (append-nil before))

  -- The value of a noted key is read once more.
  value_passes : (before : List Stated) (value : Plain) (s left : List ℕ) → is_name_kind (meant value) ≡ false → BeginsWith s value left
      → read before Outside s ≡ read before Outside left
  value_passes before value s left is h =
      on before Outside s None Outside left
      (outside (value_of marks before) s value left h ∙ token_outside (value_of marks before) (meant value) (spelled value) left is)

  item_read : (item : PrivateItem) (before : List Stated) (s left : List ℕ) → IsPrivateItem item → IsWritten s (private_pieces item) left
      → read before Outside s ≡ read (before ++ private_states item) Outside left
  item_read (key k run value) before s left is h =
      let v = value_of marks before in
      on before Outside s (Some (plain k (lexeme_of value))) Outside left
      (outside v s (name run) h.0 h.1 ∙ key_is v k run h.0 value left is.0 is.1 (last_token h.0 value left h.2))
  item_read (noted_key k run value) before s left is h =
      let v = value_of marks before in
      let value_there = last_token h.0 value left h.2 in
      on before Outside s (Some (plain k (lexeme_of value))) Outside h.0
      (outside v s (name run) h.0 h.1 ∙ note_is v k run h.0 value left is.0 value_there)
      ∙ value_passes (before ++ plain k (lexeme_of value) ∷ []) value h.0 left is.1 value_there
  item_read (other_name run) before s left is h =
      let v = value_of marks before in
      on before Outside s None Outside left (outside v s (name run) left (last_token s (name run) left h) ∙ name_is v run left is)
      ∙ nothing_more before Outside left
  item_read (other_token t) before s left is h =
      let v = value_of marks before in
      on before Outside s None Outside left (outside v s t left (last_token s t left h) ∙ token_outside v (meant t) (spelled t) left is)
      ∙ nothing_more before Outside left

  pub front_read : (items : List PrivateItem) (before : List Stated) (s left : List ℕ) → All IsPrivateItem items → IsWritten s (flat_map private_pieces items)
      left → read before Outside s ≡ read (before ++ flat_map private_states items) Outside left
  front_read [] before s left are h = ap (read before Outside) h ∙ nothing_more before Outside left
  front_read (item ∷ items) before s left are h =
      let p = parts s (private_pieces item) (flat_map private_pieces items) left h in
      item_read item before s p.left (All-head IsPrivateItem item items are) p.front
      ∙ front_read items (before ++ private_states item) p.left left (All-tail IsPrivateItem item items are) p.back
      ∙ ap (λ es. read es Outside left) (append_assoc before (private_states item) (flat_map private_states items))

  -- What is after the Subrs is read, and then reading goes on outside or still among them.
  pub record Behind (before : List Stated) (s : List ℕ) (after : List Stated) (left : List ℕ) : Type 0 where
    pub still : Bool
    pub is : read before Subrs s ≡ read after (mode_of still) left

  item_behind : (item : PrivateItem) (before : List Stated) (s left : List ℕ) → IsPrivateItem item → IsNoDup item → IsWritten s (private_pieces item) left
      → Behind before s (before ++ private_states item) left
  item_behind (key k run value) before s left is other h =
      let v = value_of marks before in
      record {
        still = false;
        is = on before Subrs s (Some (plain k (lexeme_of value))) Outside left
            (name_among v s run h.0 h.1 ∙ key_is v k run h.0 value left is.0 is.1 (last_token h.0 value left h.2));
      }
  item_behind (noted_key k run value) before s left is other h =
      let v = value_of marks before in
      let value_there = last_token h.0 value left h.2 in
      record {
        still = false;
        is = on before Subrs s (Some (plain k (lexeme_of value))) Outside h.0
            (name_among v s run h.0 h.1 ∙ note_is v k run h.0 value left is.0 value_there)
            ∙ value_passes (before ++ plain k (lexeme_of value) ∷ []) value h.0 left is.1 value_there;
      }
  item_behind (other_name run) before s left is other h =
      let v = value_of marks before in
      record {
        still = false;
        is = on before Subrs s None Outside left (name_among v s run left (last_token s (name run) left h) ∙ name_is v run left is)
            ∙ nothing_more before Outside left;
      }
  item_behind (other_token t) before s left is other h =
      let v = value_of marks before in
      let turn = among v s t left (last_token s t left h) in
      elim (cases_Bool (is_word_kind (meant t))) [
        | inl y ↦ record { still = true; is = on before Subrs s None Subrs left (turn ∙ word_among v t left other y) ∙ nothing_more before Subrs left }
        | inr n ↦ record {
          still = false;
          is = on before Subrs s None Outside left
              (turn ∙ token_among v t left other n ∙ token_outside v (meant t) (spelled t) left is) ∙ nothing_more before Outside left;
        }
      ]

  pub back_read : (items : List PrivateItem) (still : Bool) (before : List Stated) (s left : List ℕ) → All IsPrivateItem items → All IsNoDup items
      → IsWritten s (flat_map private_pieces items) left → (r : Bool)
      × (read before (mode_of still) s ≡ read (before ++ flat_map private_states items) (mode_of r) left)
  back_read items false before s left are others h = (false, front_read items before s left are h)
  back_read [] true before s left are others h = (true, ap (read before Subrs) h ∙ nothing_more before Subrs left)
  back_read (item ∷ items) true before s left are others h =
      let p = parts s (private_pieces item) (flat_map private_pieces items) left h in
      let first = item_behind item before s p.left (All-head IsPrivateItem item items are) (All-head IsNoDup item items others) p.front in
      let more = back_read items first.still (before ++ private_states item) p.left left (All-tail IsPrivateItem item items are)
      (All-tail IsNoDup item items others) p.back in
      (more.0, first.is ∙ more.1 ∙ ap (λ es. read es (mode_of more.0) left) (append_assoc before (private_states item) (flat_map private_states items)))
