-- A private text in the usual form that breaks off is refused for what is missing.
use Rattle.std.proofs.Common.{◌≡◌, ◌<◌, ◌≤◌, ◌+◌, ℕ, Bool, true, false, Option, Some, None, Result, Ok, Err, List, [], ◌∷◌, ◌++◌, flat_map, length, is_some, subst, nat_lt, if◌then◌else◌, refl, ap, sym, ◌∙◌, codes, arith}
use Rattle.std.proofs.lemmas.Bool.Decides.{nat_tests}
use Rattle.std.specs.List.{All}
use Rattle.t1_scan.specs.declared.error.ScanError.{ScanError}
use Rattle.t1_scan.specs.declared.token.Kind.{Kind}
use Rattle.t1_scan.specs.declared.token.Kind.TheVariants.{Name, Word}
use Rattle.t1_scan.specs.Spelling.{Plain, name, word, meant}
use Rattle.t1_scan.specs.Texts.{are_blanks, BeginsWith}
use Rattle.t1_scan.specs.Tokens.{Found}
use Rattle.t1_scan.proofs.TokensFound.{ends_in_blanks, refuses_the_rest}
use Rattle.t1_font.specs.declared.key.Key.{Key}
use Rattle.t1_font.specs.declared.key.Key.TheVariants.{LenIv}
use Rattle.t1_font.specs.declared.mode.PrivateMode.{PrivateMode}
use Rattle.t1_font.specs.declared.mode.PrivateMode.TheVariants.{Outside, Subrs, Glyphs}
use Rattle.t1_font.specs.declared.unread.Unread.{Unread}
use Rattle.t1_font.specs.declared.unread.Unread.TheVariants.{Unclosed, BadSubrs, BadCharStrings, BadLenIv, PastLimit}
use Rattle.t1_font.specs.Keys.{private_key, same_name, all_notes}
use Rattle.t1_font.specs.Fonts.{Stated, Marks, FontValue, value_of, glyph_of, size_of, firsts}
use Rattle.t1_font.specs.Tokens.{token_at, wanted, token_ahead, whole, natural, is_word_kind, past_word, raw_of, charstring_at}
use Rattle.t1_font.specs.Private.Room.{HasRoom}
use Rattle.t1_font.specs.PrivateText.{private_value, private_outside, subrs_at, subr_at, dup_turn, glyphs_at, glyph_turn, private_turn, private_of, private_turn_by, private_of_by}
use Rattle.t1_font.specs.Laws.Written.{IsWritten, IsWhole}
use Rattle.t1_font.specs.Laws.UsualPrivateText.{PrivateItem, private_pieces, private_states, IsPrivateItem, SubrItem, some_subrs, subrs_pieces, subrs_states, IsSubrsPart, GlyphItem, glyph_pieces, glyph_states, glyph_names, IsGlyphItem, IsCount, StatesNoCharstring}
use Rattle.t1_font.specs.Laws.BrokenPrivateText.{IsUnclosed, Opening, opening_pieces, IsOpening, KeyStart, no_key, key_name, key_start_pieces, IsKeyStart, SubrsStart, subrs_name, subrs_count, subrs_start_pieces, IsSubrsStart, CharstringStart, no_length, its_length, charstring_start_pieces, IsCharstringStart, SubrStart, no_subr, lone_dup, subr_number, subr_start_pieces, IsSubrStart, GlyphsStart, glyphs_name, glyphs_count, glyphs_dict, glyphs_dup, glyphs_start_pieces, IsGlyphsStart, GlyphStart, no_glyph, glyph_name, glyph_start_pieces, glyph_start_names, IsGlyphStart, head_pieces, Begun, begun_pieces, in_keys, in_subrs, among_subrs, in_glyphs, among_glyphs, AreBegun, IsBegun, missing_value, missing_subr, missing}
use Rattle.t1_font.specs.Laws.BrokenTexts.{EndsTooSoon, UnclosedToken, SubrCutOff, GlyphCutOff, SubrTooLong, GlyphTooLong, SubrNumberFirst}
use Rattle.t1_font.proofs.GlyphNames.{names_of, names_more, has_room, fewer}
use Rattle.t1_font.proofs.GlyphsRead as glyphs_read
use Rattle.t1_font.proofs.PrivateItemsRead as keys_read
use Rattle.t1_font.proofs.PrivateItemsRead.{read, on, mode_of, front_read, back_read}
use Rattle.t1_font.proofs.PrivateRead.{keys_no_size, keys_no_glyph, subrs_no_glyph, none_of_both}
use Rattle.t1_font.proofs.Shorter.{private_shortens}
use Rattle.t1_font.proofs.Steps.{refused}
use Rattle.t1_font.proofs.SubrsRead as subrs_read
use Rattle.t1_font.proofs.WrittenRead.{wanted_is, ahead_is, last_token, parts, whole_is, natural_is, past_word_is, is_other}

-- No token is left: where one is needed, the refusal is f of the one for the end.
record Lacks (f : Unread → Unread) (s : List ℕ) : Type 0 where
  wants : (ended : Unread) → wanted ended s ≡ Err (f ended)
  ahead : token_ahead s ≡ None

abbrev wanted_of : Unread → Result (Option Found) ScanError → Result Found Unread
wanted_of ended r = elim r [
  | Err _ ↦ Err Unclosed
  | Ok found ↦ elim found [ None ↦ Err ended | Some t ↦ Ok t ]
]

lacks_at_end : (s : List ℕ) → are_blanks false s ≡ true → Lacks (λ e. e) s
unfolding wanted token_ahead token_at
lacks_at_end s h =
    let none = (ends_in_blanks s).1 h in
    record {
      wants = λ ended. ap (wanted_of ended) none;
      ahead = ap (λ (r : Result (Option Found) ScanError). elim r [ Err _ ↦ None | Ok found ↦ found ]) none;
    }

lacks_unclosed : (s : List ℕ) → IsUnclosed s → Lacks (λ _. Unclosed) s
unfolding wanted token_ahead token_at
lacks_unclosed s h =
    let err = (refuses_the_rest s).1 (h.more, h.none) in
    record {
      wants = λ ended. ap (wanted_of ended) err;
      ahead = ap (λ (r : Result (Option Found) ScanError). elim r [ Err _ ↦ None | Ok found ↦ found ]) err;
    }

-- A number that isn't whole, and one past its limit.
abbrev natural_by : Unread → ℕ → Option ℕ → Result ℕ Unread
natural_by bad limit r = elim r [ None ↦ Err bad | Some n ↦ if nat_lt limit n then Err PastLimit else Ok n ]

natural_none : (bad : Unread) (limit : ℕ) (kind : Kind) → whole kind ≡ None → natural bad limit kind ≡ Err bad
unfolding natural
natural_none bad limit kind h = ap (natural_by bad limit) h

natural_past : (bad : Unread) (limit n : ℕ) (kind : Kind) → whole kind ≡ Some n → limit < n → natural bad limit kind ≡ Err PastLimit
unfolding natural
natural_past bad limit n kind h long =
    let past : nat_lt limit n ≡ true = grind (arith, nat_tests) in
    ap (natural_by bad limit) h ∙ rw past refl

-- What is refused of an entry's charstring.
too_long : (bad : Unread) (s : List ℕ) (t : Plain) (left : List ℕ) (len : ℕ) → BeginsWith s t left → IsWhole t len → 65535 < len
    → charstring_at bad s ≡ Err PastLimit
unfolding charstring_at
too_long bad s t left len h is long =
    rw (wanted_is bad s t left h, natural_past bad 65535 len (meant t) (whole_is t len is) long) refl

cut_off : (bad : Unread) (s : List ℕ) (count : Plain) (mid : List ℕ) (w : Plain) (left : List ℕ) (len : ℕ) → BeginsWith s count mid → IsWhole count len
    → len ≤ 65535 → BeginsWith mid w left → meant w ≡ Word → length left ≤ len → charstring_at bad s ≡ Err bad
unfolding charstring_at raw_of
cut_off bad s count mid w left len h is small k is_word short =
    let reads : is_word_kind (meant w) ≡ true = rw is_word refl in
    let none : nat_lt (length left) (1 + len) ≡ true = grind (arith, nat_tests) in
    rw (wanted_is bad s count mid h, natural_is bad 65535 len count is small, wanted_is bad mid w left k, reads, none) refl

bad_number : (t : Plain) (s : List ℕ) → whole (meant t) ≡ None → subr_at (meant t) s ≡ Err BadSubrs
unfolding subr_at
bad_number t s none = rw (natural_none BadSubrs 65534 (meant t) none) refl

-- What is refused of an entry, by what is refused of its charstring.
subr_fails : (v : FontValue) (n : ℕ) (number : Plain) (s mid left : List ℕ) (e : Unread) → IsWhole number n → n ≤ 65534 → BeginsWith s (word (codes "dup")) mid
    → BeginsWith mid number left → charstring_at BadSubrs left ≡ Err e → private_turn v Subrs s ≡ Err e
unfolding subr_at
subr_fails v n number s mid left e is small h k fails =
    subrs_read.dup_among v s mid h ∙ subrs_read.number_is n number mid left is k
    ∙ rw (natural_is BadSubrs 65534 n number is small, fails) refl

glyph_fails : (v : FontValue) (run s left : List ℕ) (e : Unread) → HasRoom v run → BeginsWith s (name run) left → charstring_at BadCharStrings left ≡ Err e
    → private_turn v Glyphs s ≡ Err e
unfolding glyph_turn
glyph_fails v run s left e room h fails = glyphs_read.name_among_glyphs v s run left h ∙ rw (room, fails) refl

module _ (f : Unread → Unread) (left : List ℕ) (lacks : Lacks f left) where
  turn_lacks : (v : FontValue) (mode : PrivateMode) → private_turn v mode left ≡ Err (f BadCharStrings)
  unfolding private_turn_by
  turn_lacks v mode = rw (lacks.wants BadCharStrings) refl

  word_lacks : (bad : Unread) (bytes : List ℕ) → past_word bad bytes left ≡ Err (f bad)
  unfolding past_word
  word_lacks bad bytes = rw (lacks.wants bad) refl

  charstring_lacks : (bad : Unread) (c : CharstringStart) (s : List ℕ) → IsCharstringStart c → IsWritten s (charstring_start_pieces c) left
      → charstring_at bad s ≡ Err (f bad)
  unfolding charstring_at
  charstring_lacks bad no_length s is h = rw (h, lacks.wants bad) refl
  charstring_lacks bad (its_length n count) s is h =
      rw (wanted_is bad s count left (last_token s count left h), natural_is bad 65535 n count is.0 is.1, lacks.wants bad) refl

  value_lacks : (k : Key) (run : List ℕ) → private_value all_notes (Some k) (47 ∷ run) left ≡ Err (f (missing_value (key_name k run)))
  unfolding private_value
  value_lacks LenIv run = rw (lacks.wants BadLenIv) refl
  value_lacks _ run = rw (lacks.wants BadCharStrings) refl

  -- In the head of the Subrs, and of the CharStrings.
  subrs_lack : (v : FontValue) (k : SubrsStart) (s : List ℕ) → is_some v.size ≡ false → IsSubrsStart k → IsWritten s (subrs_start_pieces k) left
      → private_turn v Outside s ≡ Err (f BadSubrs)
  unfolding subrs_at
  subrs_lack v subrs_name s none is h =
      keys_read.outside v s (name (codes "Subrs")) left (last_token s (name (codes "Subrs")) left h)
      ∙ subrs_read.subrs_name v left none ∙ rw (lacks.wants BadSubrs) refl
  subrs_lack v (subrs_count n count) s none is h =
      keys_read.outside v s (name (codes "Subrs")) h.0 h.1
      ∙ subrs_read.subrs_name v h.0 none
      ∙ rw (
        wanted_is BadSubrs h.0 count left (last_token h.0 count left h.2),
        subrs_read.no_array count n is.0,
        natural_is BadSubrs 65535 n count is.0 is.1,
        word_lacks BadSubrs (codes "array"),
      ) refl

  head_lacks : (k : GlyphsStart) (s mid : List ℕ) → IsGlyphsStart k → IsWritten s (glyphs_start_pieces k) left → (mid : List ℕ)
      × BeginsWith s (name (codes "CharStrings")) mid × (glyphs_at mid ≡ Err (f BadCharStrings))
  unfolding glyphs_at
  head_lacks glyphs_name s mid is h = (left, last_token s (name (codes "CharStrings")) left h, rw (lacks.wants BadCharStrings) refl)
  head_lacks (glyphs_count count) s mid is h = (
    h.0,
    h.1,
    rw (
      wanted_is BadCharStrings h.0 count left (last_token h.0 count left h.2),
      natural_is BadCharStrings 65535 is.value count is.whole is.small,
      word_lacks BadCharStrings (codes "dict"),
    ) refl,
  )
  head_lacks (glyphs_dict count) s mid is h = (
    h.0,
    h.1,
    rw (
      wanted_is BadCharStrings h.0 count h.2.0 h.2.1,
      natural_is BadCharStrings 65535 is.value count is.whole is.small,
      past_word_is
          BadCharStrings (codes "dict") h.2.0 left (last_token h.2.0 (word (codes "dict")) left h.2.2),
      word_lacks BadCharStrings (codes "dup"),
    ) refl,
  )
  head_lacks (glyphs_dup count) s mid is h = (
    h.0,
    h.1,
    rw (
      wanted_is BadCharStrings h.0 count h.2.0 h.2.1,
      natural_is BadCharStrings 65535 is.value count is.whole is.small,
      past_word_is
          BadCharStrings (codes "dict") h.2.0 h.2.2.0 h.2.2.1,
      past_word_is BadCharStrings (codes "dup") h.2.2.0 left
          (last_token h.2.2.0 (word (codes "dup")) left h.2.2.2),
      word_lacks BadCharStrings (codes "begin"),
    ) refl,
  )

-- A name where a key may be: among the Subrs it is read as outside.
name_is : (still : Bool) (v : FontValue) (s run left : List ℕ) → BeginsWith s (name run) left → private_turn v (mode_of still) s
    ≡ private_outside v Name (47 ∷ run) left
name_is true v s run left h = keys_read.name_among v s run left h
name_is false v s run left h = keys_read.outside v s (name run) left h

key_of : (v : FontValue) (k : Key) (run s : List ℕ) → private_key (47 ∷ run) ≡ Some k → private_outside v Name (47 ∷ run) s ≡ private_value all_notes (Some k) (47 ∷ run) s
key_of v k run s is =
    keys_read.name_outside v (47 ∷ run) s (is_other private_key (47 ∷ run) (codes "/Subrs") k keys_read.no_subrs_key is)
    (is_other private_key (47 ∷ run) (codes "/CharStrings") k keys_read.no_glyphs_key is)
    ∙ ap (λ o. private_value all_notes o (47 ∷ run) s) is

module _ (marks : Marks) where
  fails : (before : List Stated) (mode : PrivateMode) (s : List ℕ) (e : Unread) → private_turn (value_of marks before) mode s ≡ Err e
      → read marks before mode s ≡ Err e
  fails before mode s e h = refused private_turn BadCharStrings private_shortens marks before mode s e h

  -- What is before the CharStrings was read.
  record Opened (before : List Stated) (s left : List ℕ) : Type 0 where
    still : Bool
    after : List Stated
    none : flat_map glyph_of after ≡ []
    is : read marks before Outside s ≡ read marks after (mode_of still) left

  opened : (o : Opening) (before : List Stated) (s left : List ℕ) → IsOpening o → StatesNoCharstring before → IsWritten s (opening_pieces o) left
      → Opened before s left
  opened o before s left is none h =
      let a = parts s (flat_map private_pieces o.front) (subrs_pieces o.subrs ++ flat_map private_pieces o.back) left h in
      let b = parts a.left (subrs_pieces o.subrs) (flat_map private_pieces o.back) left a.back in
      let keys = flat_map private_states o.front in
      let subrs = subrs_states o.subrs in
      let others = flat_map private_states o.back in
      let no_size = none_of_both size_of before keys none.no_size (keys_no_size o.front) in
      let first = subrs_read.subrs_read marks o.subrs (before ++ keys) a.left b.left no_size is.subrs b.front in
      let last = back_read marks o.back first.0 ((before ++ keys) ++ subrs) b.left left is.back is.no_dup b.back in
      let no_glyph = none_of_both glyph_of before keys none.no_glyph (keys_no_glyph o.front) in
      record {
        still = last.0;
        after = ((before ++ keys) ++ subrs) ++ others;
        none = none_of_both glyph_of ((before ++ keys) ++ subrs) others
            (none_of_both glyph_of (before ++ keys) subrs no_glyph (subrs_no_glyph o.subrs)) (keys_no_glyph o.back);
        is = front_read marks o.front before s a.left is.front a.front ∙ first.1 ∙ last.1;
      }

  -- Subrs were read.
  record AmongSubrs (before : List Stated) (s left : List ℕ) : Type 0 where
    after : List Stated
    is : read marks before Outside s ≡ read marks after Subrs left

  some_read : (front : List PrivateItem) (n : ℕ) (count : Plain) (items : List SubrItem) (before : List Stated) (s mid left : List ℕ) → All IsPrivateItem front
      → IsSubrsPart (some_subrs n count items) → StatesNoCharstring before → IsWritten s (flat_map private_pieces front) mid
      → IsWritten mid (subrs_pieces (some_subrs n count items)) left → AmongSubrs before s left
  some_read front n count items before s mid left are is none h k =
      let keys = flat_map private_states front in
      let no_size = none_of_both size_of before keys none.no_size (keys_no_size front) in
      let first = subrs_read.some_subrs_read marks n count items (before ++ keys) mid left no_size is k in
      record { after = (before ++ keys) ++ subrs_states (some_subrs n count items); is = front_read marks front before s mid are h ∙ first }

  -- Glyphs were read, and there is room for these.
  record AmongGlyphs (before : List Stated) (s left : List ℕ) (names : List (List ℕ)) : Type 0 where
    after : List Stated
    few : length (firsts same_name (names_of after ++ names)) ≤ 65535
    is : read marks before Outside s ≡ read marks after Glyphs left

  many_read : (o : Opening) (count : Plain) (items : List GlyphItem) (names : List (List ℕ)) (before : List Stated) (s mid left : List ℕ) → IsOpening o
      → IsCount count → All IsGlyphItem items → length (firsts same_name (flat_map glyph_names items ++ names)) ≤ 65535 → StatesNoCharstring before
      → IsWritten s (opening_pieces o) mid → (behind : List ℕ) → IsWritten mid (head_pieces count) behind → IsWritten behind (flat_map glyph_pieces items)
      left → AmongGlyphs before s left names
  many_read o count items names before s mid left is counted are few none h behind k w =
      let first = opened o before s mid is none h in
      let named : names_of first.after ≡ [] = rw first.none refl in
      let fits : length (firsts same_name (names_of first.after ++ flat_map glyph_names items)) ≤ 65535 =
      rw named (let less = fewer names (flat_map glyph_names items) in omega (arith, less, few)) in
      let header : glyphs_read.Header count k.0 behind = record {
        a = k.2.0;
        b = k.2.2.0;
        c = k.2.2.2.0;
        number = k.2.1;
        dict = k.2.2.1;
        dup =
            k.2.2.2.1;
        begin = last_token k.2.2.2.0 (word (codes "begin")) behind k.2.2.2.2;
      } in
      let all : names_of (first.after ++ flat_map glyph_states items) ≡ flat_map glyph_names items = names_more first.after (flat_map glyph_states items)
      ∙ rw named (glyphs_read.items_names items) in
      record {
        after = first.after ++ flat_map glyph_states items;
        few = rw all few;
        is = first.is
            ∙ on marks first.after (mode_of first.still) mid None Glyphs behind (glyphs_read.name_turn first.still (value_of marks first.after) mid k.0 k.1
            ∙ glyphs_read.header_is count k.0 behind counted header)
            ∙ glyphs_read.items_read marks items first.after behind left are fits w;
      }

  key_lacks : (f : Unread → Unread) (left : List ℕ) (lacks : Lacks f left) (still : Bool) (v : FontValue) (k : KeyStart) (s : List ℕ) → IsKeyStart k
      → IsWritten s (key_start_pieces k) left → private_turn v (mode_of still) s ≡ Err (f (missing_value k))
  key_lacks f left lacks still v no_key s is h = rw h (turn_lacks f left lacks v (mode_of still))
  key_lacks f left lacks still v (key_name k run) s is h =
      name_is still v s run left (last_token s (name run) left h) ∙ key_of v k run left is ∙ value_lacks f left lacks k run

  subr_lacks : (f : Unread → Unread) (left : List ℕ) (lacks : Lacks f left) (k : SubrStart) (before : List Stated) (s : List ℕ) → IsSubrStart k
      → IsWritten s (subr_start_pieces k) left → read marks before Subrs s ≡ Err (f (missing_subr k))
  unfolding dup_turn
  subr_lacks f left lacks no_subr before s is h = fails before Subrs s (f BadCharStrings) (rw h (turn_lacks f left lacks (value_of marks before) Subrs))
  subr_lacks f left lacks lone_dup before s is h =
      on marks before Subrs s None Outside left (subrs_read.dup_among (value_of marks before) s left (last_token s (word (codes "dup")) left h)
      ∙ ap (subrs_read.behind_dup left) lacks.ahead)
      ∙ fails before Outside left (f BadCharStrings) (turn_lacks f left lacks (value_of marks before) Outside)
  subr_lacks f left lacks (subr_number n number c) before s is h =
      fails before Subrs s (f BadSubrs) (subr_fails (value_of marks before) n number s h.0 h.2.0 (f BadSubrs) is.0 is.1 h.1 h.2.1
      (charstring_lacks f left lacks BadSubrs c h.2.0 is.2 h.2.2))

  glyph_lacks : (f : Unread → Unread) (left : List ℕ) (lacks : Lacks f left) (k : GlyphStart) (before : List Stated) (s : List ℕ) → IsGlyphStart k
      → length (firsts same_name (names_of before ++ glyph_start_names k)) ≤ 65535 → IsWritten s (glyph_start_pieces k) left
      → private_turn (value_of marks before) Glyphs s ≡ Err (f BadCharStrings)
  glyph_lacks f left lacks no_glyph before s is few h = rw h (turn_lacks f left lacks (value_of marks before) Glyphs)
  glyph_lacks f left lacks (glyph_name run c) before s is few h =
      glyph_fails (value_of marks before) run s h.0 (f BadCharStrings) (has_room marks before run [] few) h.1
      (charstring_lacks f left lacks BadCharStrings c h.0 is h.2)

  lacking : (f : Unread → Unread) (b : Begun) (before : List Stated) (s left : List ℕ) → Lacks f left → AreBegun b → StatesNoCharstring before
      → IsWritten s (begun_pieces b) left → read marks before Outside s ≡ Err (f (missing b))
  lacking f (in_keys o k) before s left lacks are none h =
      let a = parts s (opening_pieces o) (key_start_pieces k) left h in
      let first = opened o before s a.left are.0 none a.front in
      first.is ∙ fails first.after (mode_of first.still) a.left (f (missing_value k))
      (key_lacks f left lacks first.still (value_of marks first.after) k a.left are.1 a.back)
  lacking f (in_subrs front k) before s left lacks are none h =
      let a = parts s (flat_map private_pieces front) (subrs_start_pieces k) left h in
      let keys = flat_map private_states front in
      let no_size = none_of_both size_of before keys none.no_size (keys_no_size front) in
      front_read marks front before s a.left are.0 a.front
      ∙ fails (before ++ keys) Outside a.left (f BadSubrs)
      (subrs_lack f left lacks (value_of marks (before ++ keys)) k a.left (subrs_read.no_size marks (before ++ keys) no_size) are.1 a.back)
  lacking f (among_subrs front n count items k) before s left lacks are none h =
      let a = parts s (flat_map private_pieces front) (subrs_pieces (some_subrs n count items) ++ subr_start_pieces k) left h in
      let b = parts a.left (subrs_pieces (some_subrs n count items)) (subr_start_pieces k) left a.back in
      let first = some_read front n count items before s a.left b.left are.0 are.1 none a.front b.front in
      first.is ∙ subr_lacks f left lacks k first.after b.left are.2 b.back
  lacking f (in_glyphs o k) before s left lacks are none h =
      let a = parts s (opening_pieces o) (glyphs_start_pieces k) left h in
      let first = opened o before s a.left are.0 none a.front in
      let head = head_lacks f left lacks k a.left left are.1 a.back in
      first.is ∙ fails first.after (mode_of first.still) a.left (f BadCharStrings)
      (glyphs_read.name_turn first.still (value_of marks first.after) a.left head.0 head.1 ∙ head.2)
  lacking f (among_glyphs o count items k) before s left lacks are none h =
      let a = parts s (opening_pieces o) (head_pieces count ++ (flat_map glyph_pieces items ++ glyph_start_pieces k)) left h in
      let b = parts a.left (head_pieces count) (flat_map glyph_pieces items ++ glyph_start_pieces k) left a.back in
      let c = parts b.left (flat_map glyph_pieces items) (glyph_start_pieces k) left b.back in
      let first = many_read o count items (glyph_start_names k) before s a.left c.left are.0 are.1 are.2 are.4 none a.front b.left b.front c.front in
      first.is ∙ fails first.after Glyphs c.left (f BadCharStrings) (glyph_lacks f left lacks k first.after c.left are.3 first.few c.back)

pub ends_too_soon : EndsTooSoon
unfolding private_of_by
ends_too_soon marks before b s left none is end = lacking marks (λ e. e) b before s left (lacks_at_end left end) is.parts none is.written

pub unclosed_token : UnclosedToken
unfolding private_of_by
unclosed_token marks before b s left none is broken = lacking marks (λ _. Unclosed) b before s left (lacks_unclosed left broken) is.parts none is.written

-- An entry whose charstring is refused.
module _ (marks : Marks) (before : List Stated) (none : StatesNoCharstring before) where
  subr_refused : (front : List PrivateItem) (n : ℕ) (count : Plain) (items : List SubrItem) (i : ℕ) (number : Plain) (c : CharstringStart) (s left : List ℕ)
      (e : Unread) → IsBegun (among_subrs front n count items (subr_number i number c)) s left
      → ((mid : List ℕ) → IsWritten mid (charstring_start_pieces c) left → charstring_at BadSubrs mid ≡ Err e) → private_of marks before s ≡ Err e
  unfolding private_of_by
  subr_refused front n count items i number c s left e is h =
      let a = parts s (flat_map private_pieces front) (subrs_pieces (some_subrs n count items) ++ subr_start_pieces (subr_number i number c)) left is.written in
      let b = parts a.left (subrs_pieces (some_subrs n count items)) (subr_start_pieces (subr_number i number c)) left a.back in
      let first = some_read marks front n count items before s a.left b.left is.parts.0 is.parts.1 none a.front b.front in
      let w = b.back in
      let good = is.parts.2 in
      first.is ∙ fails marks first.after Subrs b.left e
      (subr_fails (value_of marks first.after) i number b.left w.0 w.2.0 e good.0 good.1 w.1 w.2.1 (h w.2.0 w.2.2))

  glyph_refused : (o : Opening) (count : Plain) (items : List GlyphItem) (run : List ℕ) (c : CharstringStart) (s left : List ℕ) (e : Unread)
      → IsBegun (among_glyphs o count items (glyph_name run c)) s left
      → ((mid : List ℕ) → IsWritten mid (charstring_start_pieces c) left → charstring_at BadCharStrings mid ≡ Err e) → private_of marks before s ≡ Err e
  unfolding private_of_by
  glyph_refused o count items run c s left e is h =
      let start = glyph_start_pieces (glyph_name run c) in
      let a = parts s (opening_pieces o) (head_pieces count ++ (flat_map glyph_pieces items ++ start)) left is.written in
      let b = parts a.left (head_pieces count) (flat_map glyph_pieces items ++ start) left a.back in
      let d = parts b.left (flat_map glyph_pieces items) start left b.back in
      let are = is.parts in
      let first = many_read marks o count items (run ∷ []) before s a.left d.left are.0 are.1 are.2 are.4 none a.front b.left b.front d.front in
      let w = d.back in
      first.is ∙ fails marks first.after Glyphs d.left e
      (glyph_fails (value_of marks first.after) run d.left w.0 e (has_room marks first.after run [] first.few) w.1 (h w.0 w.2))

pub subr_cut_off : SubrCutOff
subr_cut_off marks before front n count items i len number bytes read_word s mid left none is h is_word short =
    subr_refused marks before none front n count items i number (its_length len bytes) s mid BadSubrs is
    (λ x w. cut_off BadSubrs x bytes mid read_word left len (last_token x bytes mid w) is.parts.2.2.0 is.parts.2.2.1 h is_word short)

pub glyph_cut_off : GlyphCutOff
glyph_cut_off marks before o count items run len bytes read_word s mid left none is h is_word short =
    glyph_refused marks before none o count items run (its_length len bytes) s mid BadCharStrings is
    (λ x w. cut_off BadCharStrings x bytes mid read_word left len (last_token x bytes mid w) is.parts.3.0 is.parts.3.1 h is_word short)

pub subr_too_long : SubrTooLong
subr_too_long marks before front n count items i len number bytes s mid left none is h whole long =
    subr_refused marks before none front n count items i number no_length s mid PastLimit is
    (λ x w. too_long BadSubrs x bytes left len (subst (λ y. BeginsWith y bytes left) (sym w) h) whole long)

pub glyph_too_long : GlyphTooLong
glyph_too_long marks before o count items run len bytes s mid left none is h whole long =
    glyph_refused marks before none o count items run no_length s mid PastLimit is
    (λ x w. too_long BadCharStrings x bytes left len (subst (λ y. BeginsWith y bytes left) (sym w) h) whole long)

pub subr_number_first : SubrNumberFirst
unfolding private_of_by dup_turn
subr_number_first marks before front n count items number s mid left none is h is_number no_whole =
    let a = parts s (flat_map private_pieces front) (subrs_pieces (some_subrs n count items) ++ subr_start_pieces lone_dup) mid is.written in
    let b = parts a.left (subrs_pieces (some_subrs n count items)) (subr_start_pieces lone_dup) mid a.back in
    let first = some_read marks front n count items before s a.left b.left is.parts.0 is.parts.1 none a.front b.front in
    let w = last_token b.left (word (codes "dup")) mid b.back in
    let turn = subrs_read.dup_among (value_of marks first.after) b.left mid w
    ∙ ap (subrs_read.behind_dup mid) (ahead_is mid number left h) ∙ rw is_number (bad_number number left no_whole) in
    first.is ∙ fails marks first.after Subrs b.left BadSubrs turn
