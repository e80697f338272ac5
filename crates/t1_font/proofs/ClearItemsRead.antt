-- A clear text in the usual form is read as what its items state.
use Rattle.std.proofs.Common.{◌≡◌, ℕ, true, false, Option, Some, None, Ok, List, [], ◌∷◌, ◌++◌, flat_map, refl, ap, sym, ◌∙◌, append_assoc, append-nil, codes}
use Rattle.std.proofs.lemmas.List.Elements.{All-head, All-tail}
use Rattle.std.specs.List.{All}
use Rattle.t1_scan.specs.declared.token.Kind.TheVariants.{Name}
use Rattle.t1_scan.specs.Spelling.{Plain, name, word, spelled, meant}
use Rattle.t1_scan.specs.Texts.{BeginsWith, lexeme_of}
use Rattle.t1_font.specs.declared.encoding.Encoding.TheVariants.{Standard, Custom, Other}
use Rattle.t1_font.specs.declared.key.Key.{Key}
use Rattle.t1_font.specs.declared.mode.ClearMode.{ClearMode}
use Rattle.t1_font.specs.declared.mode.ClearMode.TheVariants.{Outside, Codes}
use Rattle.t1_font.specs.declared.unread.Unread.TheVariants.{NoEexec}
use Rattle.t1_font.specs.Keys.{all_notes, clear_key, clear_note, same_name}
use Rattle.t1_font.specs.Fonts.{Stated, Marks, FontValue, value_of, plain, encoding}
use Rattle.t1_font.specs.TextTurns.{TextTurn, over, goes, stated_in}
use Rattle.t1_font.specs.ClearText.{clear_turn, clear_value, is_code_count, begins, array_at, encoding_at, encoding_turn, clear_outside, clear_turn_by, clear_outside_by, clear_of_by}
use Rattle.t1_font.specs.Laws.Written.{token, IsWritten, IsWhole}
use Rattle.t1_font.specs.Laws.UsualClearText.{code_states, ClearItem, IsClearNote, key, noted_key, standard, custom, other_name, other_token, clear_pieces, clear_states, IsOtherClearName, PassesInClear, IsClearItem, all_clear_states}
use Rattle.t1_font.specs.Laws.UsualTexts.{ReadsUsualClear}
use Rattle.t1_font.proofs.CodesRead.{codes_read}
use Rattle.t1_font.proofs.Shorter.{clear_shortens}
use Rattle.t1_font.proofs.Steps.{goes_on, is_over}
use Rattle.t1_font.proofs.WrittenRead.{is_other, noted_is, nothing_noted, wanted_is, ahead_is, last_token, parts, whole_is_no_word}
use Rattle.t1_font.specs.Notes.{noted}

-- A token outside.
outside : (v : FontValue) (s : List ℕ) (t : Plain) (left : List ℕ) → BeginsWith s t left → clear_turn v Outside s ≡ clear_outside (meant t) (spelled t) left
unfolding clear_turn_by
outside v s t left h = rw (wanted_is NoEexec s t left h) refl

-- The names of another meaning are no plain keys.
no_encoding_key : clear_key (codes "/Encoding") ≡ None
unfolding clear_key
no_encoding_key = refl

no_weights_key : clear_key (codes "/WeightVector") ≡ None
unfolding clear_key
no_weights_key = refl

name_outside : (text rest : List ℕ) → same_name text (codes "/WeightVector") ≡ false → same_name text (codes "/Encoding") ≡ false → clear_outside Name text rest
    ≡ clear_value all_notes (clear_key text) text rest
unfolding clear_outside_by
name_outside text rest a b = rw (a, b) refl

value_is : (k : Key) (text s : List ℕ) (value : Plain) (left : List ℕ) → BeginsWith s value left
    → clear_value all_notes (Some k) text s ≡ Ok (goes (Some (plain k (lexeme_of value))) Outside left)
unfolding clear_value
value_is k text s value left h = rw (wanted_is NoEexec s value left h) refl

none_is : (text s : List ℕ) → clear_value all_notes None text s ≡ Ok (goes (noted (clear_note text) s) Outside s)
unfolding clear_value
none_is text s = refl

key_turn : (v : FontValue) (k : Key) (run : List ℕ) (value : Plain) (s left : List ℕ) → clear_key (47 ∷ run) ≡ Some k
    → IsWritten s (token (name run) ∷ token value ∷ []) left → clear_turn v Outside s ≡ Ok (goes (Some (plain k (lexeme_of value))) Outside left)
key_turn v k run value s left is h =
    outside v s (name run) h.0 h.1
    ∙ name_outside (47 ∷ run) h.0 (is_other clear_key (47 ∷ run) (codes "/WeightVector") k no_weights_key is)
    (is_other clear_key (47 ∷ run) (codes "/Encoding") k no_encoding_key is)
    ∙ ap (λ k. clear_value all_notes k (47 ∷ run) h.0) is
    ∙ value_is k (47 ∷ run) h.0 value left (last_token h.0 value left h.2)

name_turn : (v : FontValue) (run s left : List ℕ) → IsOtherClearName run → BeginsWith s (name run) left → clear_turn v Outside s ≡ Ok (goes None Outside left)
name_turn v run s left is h =
    outside v s (name run) left h
    ∙ name_outside (47 ∷ run) left is.not_weights is.not_encoding
    ∙ ap (λ k. clear_value all_notes k (47 ∷ run) left) is.no_key
    ∙ none_is (47 ∷ run) left
    ∙ ap (λ k. Ok (goes (noted k left) Outside left)) is.no_note
    ∙ ap (λ e. Ok (goes e Outside left)) (nothing_noted left)

note_turn : (v : FontValue) (k : Key) (run : List ℕ) (value : Plain) (s left : List ℕ) → IsClearNote k run
    → (h : IsWritten s (token (name run) ∷ token value ∷ []) left) → clear_turn v Outside s ≡ Ok (goes (Some (plain k (lexeme_of value))) Outside h.0)
note_turn v k run value s left is h =
    outside v s (name run) h.0 h.1
    ∙ name_outside (47 ∷ run) h.0 is.not_weights is.not_encoding
    ∙ ap (λ k. clear_value all_notes k (47 ∷ run) h.0) is.no_key
    ∙ none_is (47 ∷ run) h.0
    ∙ ap (λ k. Ok (goes (noted k h.0) Outside h.0)) is.note
    ∙ ap (λ e. Ok (goes e Outside h.0)) (noted_is k h.0 value left (last_token h.0 value left h.2))

token_turn : (v : FontValue) (s : List ℕ) (t : Plain) (left : List ℕ) → PassesInClear t → BeginsWith s t left
    → clear_turn v Outside s ≡ Ok (goes None Outside left)
unfolding clear_outside_by
token_turn v s t left is h = outside v s t left h ∙ rw (is.not_eexec, is.no_name) refl

eexec_turn : (v : FontValue) (s rest : List ℕ) → BeginsWith s (word (codes "eexec")) rest → clear_turn v Outside s ≡ Ok (over rest)
unfolding clear_outside_by
eexec_turn v s rest h = outside v s (word (codes "eexec")) rest h

-- The Encoding.
encoding_name : (v : FontValue) (s left : List ℕ) → BeginsWith s (name (codes "Encoding")) left → clear_turn v Outside s ≡ Ok (encoding_turn left)
unfolding clear_outside_by
encoding_name v s left h = outside v s (name (codes "Encoding")) left h

-- What was found after /Encoding, or another form.
abbrev found_or : List ℕ → Option (TextTurn ClearMode) → TextTurn ClearMode
found_or s r = elim r [ Some t ↦ t | None ↦ begins Other Outside s ]

standard_at : (s left : List ℕ) → BeginsWith s (word (codes "StandardEncoding")) left → encoding_at s ≡ Some (goes (Some (encoding Standard)) Outside left)
unfolding encoding_at
standard_at s left h = rw (ahead_is s (word (codes "StandardEncoding")) left h) refl

standard_is : (s left : List ℕ) → BeginsWith s (word (codes "StandardEncoding")) left → encoding_turn s ≡ goes (Some (encoding Standard)) Outside left
unfolding encoding_turn
standard_is s left h = ap (found_or s) (standard_at s left h)

count_is : (count : Plain) → IsWhole count 256 → is_code_count (meant count) ≡ true
count_is count h = rw h refl

array_is : (s left : List ℕ) → BeginsWith s (word (codes "array")) left → array_at s ≡ Some left
unfolding array_at
array_is s left h = rw (ahead_is s (word (codes "array")) left h) refl

custom_at : (count : Plain) (s mid left : List ℕ) → IsWhole count 256 → BeginsWith s count mid → BeginsWith mid (word (codes "array")) left
    → encoding_at s ≡ Some (goes (Some (encoding Custom)) Codes left)
unfolding encoding_at
custom_at count s mid left is h k =
    rw (ahead_is s count mid h, whole_is_no_word count 256 is, count_is count is, array_is mid left k) refl

custom_is : (count : Plain) (s mid left : List ℕ) → IsWhole count 256 → BeginsWith s count mid → BeginsWith mid (word (codes "array")) left
    → encoding_turn s ≡ goes (Some (encoding Custom)) Codes left
unfolding encoding_turn
custom_is count s mid left is h k = ap (found_or s) (custom_at count s mid left is h k)

module _ (marks : Marks) where
  nothing_more : (before : List Stated) (s : List ℕ) → stated_in clear_turn NoEexec marks before Outside s ≡ stated_in clear_turn NoEexec
      marks (before ++ []) Outside s
  nothing_more before s = ap (λ es. stated_in clear_turn NoEexec marks es Outside s) (sym (append-nil before))

  item_read : (item : ClearItem) (before : List Stated) (s left : List ℕ) → IsClearItem item → IsWritten s (clear_pieces item) left
      → stated_in clear_turn NoEexec marks before Outside s ≡ stated_in clear_turn NoEexec marks (before ++ clear_states item) Outside left
  item_read (key k run value) before s left is h =
      goes_on clear_turn NoEexec clear_shortens marks before Outside s (Some (plain k (lexeme_of value))) Outside left
      (key_turn (value_of marks before) k run value s left is h)
  item_read (noted_key k run value) before s left is h =
      goes_on clear_turn NoEexec clear_shortens marks before Outside s (Some (plain k (lexeme_of value))) Outside h.0
      (note_turn (value_of marks before) k run value s left is.0 h)
      ∙ goes_on clear_turn NoEexec clear_shortens marks (before ++ plain k (lexeme_of value) ∷ []) Outside h.0 None Outside left
      (token_turn (value_of marks (before ++ plain k (lexeme_of value) ∷ [])) h.0 value left is.1 (last_token h.0 value left h.2))
  item_read standard before s left is h =
      goes_on clear_turn NoEexec clear_shortens marks before Outside s (Some (encoding Standard)) Outside left
      (encoding_name (value_of marks before) s h.0 h.1 ∙ ap Ok (standard_is h.0 left (last_token h.0 (word (codes "StandardEncoding")) left h.2)))
  item_read (custom count items) before s left is h =
      goes_on clear_turn NoEexec clear_shortens marks before Outside s (Some (encoding Custom)) Codes h.2.2.0
      (encoding_name (value_of marks before) s h.0 h.1 ∙ ap Ok (custom_is count h.0 h.2.0 h.2.2.0 is.0 h.2.1 h.2.2.1))
      ∙ codes_read marks items (before ++ encoding Custom ∷ []) h.2.2.0 left is.1 h.2.2.2
      ∙ ap (λ es. stated_in clear_turn NoEexec marks es Outside left) (append_assoc before (encoding Custom ∷ []) (flat_map code_states items))
  item_read (other_name run) before s left is h =
      goes_on clear_turn NoEexec clear_shortens marks before Outside s None Outside left
      (name_turn (value_of marks before) run s left is (last_token s (name run) left h))
      ∙ nothing_more before left
  item_read (other_token t) before s left is h =
      goes_on clear_turn NoEexec clear_shortens marks before Outside s None Outside left
      (token_turn (value_of marks before) s t left is (last_token s t left h))
      ∙ nothing_more before left

  items_read : (items : List ClearItem) (before : List Stated) (s left : List ℕ) → All IsClearItem items → IsWritten s (flat_map clear_pieces items) left
      → stated_in clear_turn NoEexec marks before Outside s ≡ stated_in clear_turn NoEexec marks (before ++ all_clear_states items) Outside left
  items_read [] before s left are h =
      ap (λ text. stated_in clear_turn NoEexec marks before Outside text) h ∙ nothing_more before left
  items_read (item ∷ items) before s left are h =
      let p = parts s (clear_pieces item) (flat_map clear_pieces items) left h in
      item_read item before s p.left (All-head IsClearItem item items are) p.front
      ∙ items_read items (before ++ clear_states item) p.left left (All-tail IsClearItem item items are) p.back
      ∙ ap (λ es. stated_in clear_turn NoEexec marks es Outside left) (append_assoc before (clear_states item) (all_clear_states items))

pub reads_usual_clear : ReadsUsualClear
unfolding clear_of_by
reads_usual_clear marks items s rest usual =
    let p = parts s (flat_map clear_pieces items) (token (word (codes "eexec")) ∷ []) rest usual.written in
    let read = items_read marks items [] s p.left usual.usual p.front
    ∙ is_over clear_turn NoEexec clear_shortens marks (all_clear_states items) Outside p.left rest
    (eexec_turn (value_of marks (all_clear_states items)) p.left rest (last_token p.left (word (codes "eexec")) rest p.back)) in
    rw usual.begins read
