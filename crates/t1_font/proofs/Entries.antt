-- The entry of a charstring as a row has it.
use Rattle.std.proofs.Common.{◌≡◌, ◌+◌, ◌-◌, ◌<◌, ◌≤◌, ℕ, Bool, true, false, Option, None, Some, Result, Ok, Err, List, codes, [], ◌∷◌, ◌++◌, drop, take, length, nat_le, nat_lt, if◌then◌else◌, refl, ap, subst, sym, ◌∙◌, arith}
use Rattle.std.proofs.lemmas.Bool.{le-leb}
use Rattle.std.proofs.lemmas.Bool.Decides.{nat_tests}
use Rattle.std.proofs.lemmas.List.{length-drop, length-take}
use Rattle.t1_scan.specs.declared.token.Kind.{Kind}
use Rattle.t1_scan.specs.declared.error.ScanError.{ScanError}
use Rattle.t1_scan.specs.declared.token.Kind.TheVariants.{Name, Number, Word}
use Rattle.t1_scan.specs.declared.token.Token.{Token}
use Rattle.t1_scan.specs.Tokens.{Found}
use Rattle.t1_font.specs.declared.mode.PrivateMode.{PrivateMode}
use Rattle.t1_font.specs.declared.mode.PrivateMode.TheVariants.{Glyphs, Outside, Subrs}
use Rattle.t1_font.specs.declared.mode.TextMode.{TextMode}
use Rattle.t1_font.specs.declared.mode.TextMode.TheVariants.{Private}
use Rattle.t1_font.specs.declared.row.Entry.{Entry}
use Rattle.t1_font.specs.declared.row.Role.{Role}
use Rattle.t1_font.specs.declared.row.Role.TheVariants.{Other, Reader}
use Rattle.t1_font.specs.declared.unread.Unread.{Unread}
use Rattle.t1_font.specs.declared.unread.Unread.TheVariants.{BadCharStrings, BadSubrs}
use Rattle.t1_font.specs.Bounds.{most_subrs}
use Rattle.t1_font.specs.Fonts.{glyph, subr, value_of}
use Rattle.t1_font.specs.PrivateText.{dup_turn, glyph_turn, glyphs_token, private_token, private_turn_by, subr_at, subrs_token_by}
use Rattle.t1_font.specs.Readings.{◌>>=◌}
use Rattle.t1_font.specs.TextTurns.{TextTurn, goes, pass}
use Rattle.t1_font.specs.Private.Entries.{IsFirstPart, IsWordBefore}
use Rattle.t1_font.specs.Private.Turning.{HasTurned}
use Rattle.std.specs.Borrow.{Bor}
use Rattle.t1_font.specs.declared.row.Part.{Part}
use Rattle.t1_font.specs.declared.row.Row.{Row}
use Rattle.t1_font.specs.Rows.{BeginsWith, HasEntry, RowToken, entry_token, nothing_stated, of_text, row_left, row_of, text_turn, token_before, tokens_until}
use Rattle.t1_font.specs.Tokens.{charstring_at, is_name_kind, is_number_kind, is_word_kind, name_of, natural, raw_of, some_raw, spells, token_ahead, token_at, wanted, whole}
use Rattle.t1_font.proofs.RowsLeft.{no_token, one_token, one_turn, read_ahead, read_wanted, turned}
use Rattle.t1_font.proofs.Running.{IsBehind, is_shorter}
use Rattle.t1_font.proofs.Shorter.{ahead_first}

pub natural_number : (bad : Unread) (limit : ℕ) (kind : Kind) (n : ℕ) → natural bad limit kind ≡ Ok n → is_number_kind kind ≡ true
unfolding natural whole
natural_number bad limit (Number value) n is = refl
natural_number bad limit _ n is = cc

same_pair : (bad : Unread) (p q : List ℕ × List ℕ) → some_raw bad (Some p) ≡ Ok q → p ≡ q
same_pair bad p q is = cc

pub raw_behind : (bad : Unread) (len : ℕ) (s bytes left : List ℕ) → some_raw bad (raw_of len s) ≡ Ok (bytes, left)
    → length s ≡ length left + length bytes + 1
unfolding raw_of
raw_behind bad len s bytes left is = go (nat_lt (length s) (1 + len)) refl is
  where
    go : (b : Bool) → nat_lt (length s) (1 + len) ≡ b
        → some_raw bad (if b then None else Some (take len (drop 1 s), drop (1 + len) s)) ≡ Ok (bytes, left) → length s ≡ length left + length bytes + 1
    go true few is = cc
    go false many is =
        let pair = same_pair bad (take len (drop 1 s), drop (1 + len) s) (bytes, left) is in
        let first : take len (drop 1 s) ≡ bytes = ap (λ p. p.0) pair in
        let second : drop (1 + len) s ≡ left = ap (λ p. p.1) pair in
        let enough : 1 + len ≤ length s = grind (arith, nat_tests, many) in
        let of_bytes : length bytes ≡ length (take len (drop 1 s)) = ap length (sym first) in
        let of_left : length left ≡ length (drop (1 + len) s) = ap length (sym second) in
        omega (arith, enough, of_bytes, of_left, length-take len (drop 1 s), length-drop 1 s, length-drop (1 + len) s)

-- ---- the tokens of an entry

ahead_shorter : (s : List ℕ) (t : Found) → token_ahead s ≡ Some t → length t.rest < length s
ahead_shorter s t is = let behind : IsBehind s t.rest = rw is at (ahead_first s) in is_shorter s t.rest behind

more_test : (stop : ℕ) (s : List ℕ) → stop < length s → nat_le (length s) stop ≡ false
more_test stop s more = grind (arith, nat_tests)

found_before : (stop : ℕ) (s : List ℕ) (t : Found) → token_ahead s ≡ Some t → stop < length s → token_before stop s ≡ Some t
unfolding token_before
found_before stop s t is more = rw (more_test stop s more) is

none_before : (stop : ℕ) (s : List ℕ) → length s ≡ stop → token_before stop s ≡ None
unfolding token_before
none_before stop s same = rw (le-leb (length s) stop (omega (arith, same))) refl

abbrev plain : Role → Found → RowToken
plain role t = record { kind = t.kind; text = t.text; role = role }

inner_token : (stop : ℕ) (s : List ℕ) (t : Found) → token_ahead s ≡ Some t → stop < length t.rest
    → tokens_until Other true stop s ≡ plain Other t ∷ tokens_until Other true stop t.rest
inner_token stop s t is more =
    let less = ahead_shorter s t is in
    one_token true stop Other s t (found_before stop s t is (omega (arith, less, more))) ∙ rw (more_test stop t.rest more) refl

last_token : (stop : ℕ) (s : List ℕ) (t : Found) → token_ahead s ≡ Some t → length t.rest ≡ stop → tokens_until Other true stop s ≡ plain Reader t ∷ []
last_token stop s t is same =
    let less = ahead_shorter s t is in
    one_token true stop Other s t (found_before stop s t is (omega (arith, less, same)))
    ∙ rw (le-leb (length t.rest) stop (omega (arith, same)), no_token true stop Other t.rest (none_before stop t.rest same)) refl

-- Of the text behind the tokens that begin an entry: the count of the bytes and the word.
count_and_word : (s : List ℕ) (w : Token) (bytes left : List ℕ) (h : IsWordBefore s w bytes left)
    → tokens_until Other true (length left + length bytes + 1) s ≡ plain Other h.count ∷ (entry_token Reader w ∷ [])
count_and_word s w bytes left h =
    let shorter = ahead_shorter h.count.rest h.word h.next in
    inner_token (length left + length bytes + 1) s h.count h.first (omega (arith, shorter, h.behind))
    ∙ ap (λ ts. plain Other h.count ∷ ts)
    (last_token (length left + length bytes + 1) h.count.rest h.word h.next h.behind ∙ rw (h.kind, h.text) refl)

count_behind : (s : List ℕ) (w : Token) (bytes left : List ℕ) → IsWordBefore s w bytes left → length left + length bytes + 1 < length s
count_behind s w bytes left h =
    let shorter = ahead_shorter h.count.rest h.word h.next in
    let short = ahead_shorter s h.count h.first in
    omega (arith, shorter, short, h.behind)

-- ---- turns of the lists

wanted_of : (e : Unread) (s : List ℕ) (t : Found) → token_ahead s ≡ Some t → wanted e s ≡ Ok t
unfolding wanted token_ahead
wanted_of e s t is = go (token_at s) is
  where
    go : (read : Result (Option Found) ScanError) → read_ahead read ≡ Some t → read_wanted e read ≡ Ok t
    go (Ok (Some u)) is = let same : u ≡ t = cc in ap Ok same
    go (Ok None) is = cc
    go (Err x) is = cc

abbrev turn_by : PrivateMode → Found → Result (TextTurn TextMode) Unread
turn_by mode t = private_token nothing_stated mode t.kind t.text t.rest >>= λ turn. Ok (of_text Private turn)

by_token : (mode : PrivateMode) (s : List ℕ) (t : Found) → token_ahead s ≡ Some t → text_turn nothing_stated (Private mode) s ≡ turn_by mode t
unfolding text_turn private_turn_by
by_token mode s t is =
    ap (λ (found : Result Found Unread). (found >>= λ u. private_token nothing_stated mode u.kind u.text u.rest) >>= λ turn. Ok (of_text Private turn))
    (wanted_of BadCharStrings s t is)

is_the_name : (kind : Kind) → is_name_kind kind ≡ true → kind ≡ Name
is_the_name Name is = refl
is_the_name _ is = cc

is_the_word : (kind : Kind) → is_word_kind kind ≡ true → kind ≡ Word
is_the_word Word is = refl
is_the_word _ is = cc

glyph_by : (t : Found) (bytes left : List ℕ) → is_name_kind t.kind ≡ true → charstring_at BadCharStrings t.rest ≡ Ok (bytes, left)
    → turn_by Glyphs t ≡ Ok (goes (Some (glyph (name_of t.text) bytes)) (Private Glyphs) left)
unfolding glyphs_token glyph_turn value_of
glyph_by t bytes left is read = rw (is_the_name t.kind is, read) refl

pub glyph_entry : (s : List ℕ) (t : Found) (e : Entry) (bytes left : List ℕ) → token_ahead s ≡ Some t → is_name_kind t.kind ≡ true
    → charstring_at BadCharStrings t.rest ≡ Ok (bytes, left) → IsWordBefore t.rest e.word bytes left → plain Other t ≡ entry_token Other e.first
    → e.numbers ≡ 1 → HasEntry e (row_of (Private Glyphs) s) (row_of (Private Glyphs) left)
glyph_entry s t e bytes left is name read word same one = record {
  numbers = plain Other word.count ∷ [];
  all = ((word.number, refl), tt);
  count = sym one;
  whole =
      one_turn (Private Glyphs) s (Some (glyph (name_of t.text) bytes)) (Private Glyphs) left (by_token Glyphs s t is ∙ glyph_by t bytes left name read)
      ∙ ap (λ ts. ts ++ row_of (Private Glyphs) left)
      (inner_token (length left + length bytes + 1) s t is (count_behind t.rest e.word bytes left word)
      ∙ ap (λ f. f ∷ tokens_until Other true (length left + length bytes + 1) t.rest) same
      ∙ ap (λ ts. entry_token Other e.first ∷ ts) (count_and_word t.rest e.word bytes left word));
}

word_in_glyphs : (t : Found) → is_word_kind t.kind ≡ true → spells (codes "end") t.kind t.text ≡ false
    → turn_by Glyphs t ≡ Ok (goes None (Private Glyphs) t.rest)
unfolding glyphs_token
word_in_glyphs t is other = rw (other, is) refl

word_in_subrs : (t : Found) → is_word_kind t.kind ≡ true → spells (codes "dup") t.kind t.text ≡ false
    → turn_by Subrs t ≡ Ok (goes None (Private Subrs) t.rest)
unfolding subrs_token_by
word_in_subrs t is other = rw (other, is) refl

one_word : (s : List ℕ) (t : Found) → token_ahead s ≡ Some t → tokens_until Other false (length t.rest) s ≡ plain Other t ∷ []
one_word s t is =
    let less = ahead_shorter s t is in
    one_token false (length t.rest) Other s t (found_before (length t.rest) s t is less)
    ∙ ap (λ ts. plain Other t ∷ ts) (no_token false (length t.rest) Other t.rest (none_before (length t.rest) t.rest refl))

pub glyph_word : (s : List ℕ) (t : Found) → token_ahead s ≡ Some t → is_word_kind t.kind ≡ true → spells (codes "end") t.kind t.text ≡ false
    → row_of (Private Glyphs) s ≡ plain Other t ∷ row_of (Private Glyphs) t.rest
glyph_word s t is word other =
    one_turn (Private Glyphs) s None (Private Glyphs) t.rest (by_token Glyphs s t is ∙ word_in_glyphs t word other)
    ∙ ap (λ ts. ts ++ row_of (Private Glyphs) t.rest) (one_word s t is)

pub subr_word : (s : List ℕ) (t : Found) → token_ahead s ≡ Some t → is_word_kind t.kind ≡ true → spells (codes "dup") t.kind t.text ≡ false
    → row_of (Private Subrs) s ≡ plain Other t ∷ row_of (Private Subrs) t.rest
subr_word s t is word other =
    one_turn (Private Subrs) s None (Private Subrs) t.rest (by_token Subrs s t is ∙ word_in_subrs t word other)
    ∙ ap (λ ts. ts ++ row_of (Private Subrs) t.rest) (one_word s t is)

subr_read : (kind : Kind) (rest : List ℕ) (n : ℕ) (bytes left : List ℕ) → natural BadSubrs (most_subrs - 1) kind ≡ Ok n
    → charstring_at BadSubrs rest ≡ Ok (bytes, left) → subr_at kind rest ≡ Ok (goes (Some (subr n bytes)) Subrs left)
unfolding subr_at
subr_read kind rest n bytes left size read = rw size (rw read refl)

abbrev dup_next : List ℕ → Option Found → Result (TextTurn PrivateMode) Unread
dup_next s found = elim found [
  | None ↦ Ok (pass Outside s)
  | Some t ↦ if is_number_kind t.kind then subr_at t.kind t.rest else Ok (pass Outside s)
]

dup_step : (s : List ℕ) → dup_turn s ≡ dup_next s (token_ahead s)
unfolding dup_turn
dup_step s = refl

dup_read : (s : List ℕ) (number : Found) (n : ℕ) (bytes left : List ℕ) → token_ahead s ≡ Some number
    → natural BadSubrs (most_subrs - 1) number.kind ≡ Ok n → charstring_at BadSubrs number.rest ≡ Ok (bytes, left)
    → dup_turn s ≡ Ok (goes (Some (subr n bytes)) Subrs left)
dup_read s number n bytes left ahead size read =
    dup_step s ∙ ap (dup_next s) ahead
    ∙ rw (natural_number BadSubrs (most_subrs - 1) number.kind n size) (subr_read number.kind number.rest n bytes left size read)

subr_by : (t number : Found) (n : ℕ) (bytes left : List ℕ) → spells (codes "dup") t.kind t.text ≡ true → token_ahead t.rest ≡ Some number
    → natural BadSubrs (most_subrs - 1) number.kind ≡ Ok n → charstring_at BadSubrs number.rest ≡ Ok (bytes, left)
    → turn_by Subrs t ≡ Ok (goes (Some (subr n bytes)) (Private Subrs) left)
unfolding subrs_token_by
subr_by t number n bytes left dup ahead size read = rw (dup, dup_read t.rest number n bytes left ahead size read) refl

pub subr_entry : (s : List ℕ) (t number : Found) (n : ℕ) (e : Entry) (bytes left : List ℕ) → token_ahead s ≡ Some t
    → spells (codes "dup") t.kind t.text ≡ true → token_ahead t.rest ≡ Some number → natural BadSubrs (most_subrs - 1) number.kind ≡ Ok n
    → charstring_at BadSubrs number.rest ≡ Ok (bytes, left) → IsWordBefore number.rest e.word bytes left → plain Other t ≡ entry_token Other e.first
    → e.numbers ≡ 2 → HasEntry e (row_of (Private Subrs) s) (row_of (Private Subrs) left)
subr_entry s t number n e bytes left is dup ahead size read word same two =
    let kind = natural_number BadSubrs (most_subrs - 1) number.kind n size in
    let behind = count_behind number.rest e.word bytes left word in
    let shorter = ahead_shorter t.rest number ahead in
    record {
      numbers = plain Other number ∷ (plain Other word.count ∷ []);
      all = ((kind, refl), ((word.number, refl), tt));
      count = sym two;
      whole =
          one_turn (Private Subrs) s (Some (subr n bytes)) (Private Subrs) left (by_token Subrs s t is ∙ subr_by t number n bytes left dup ahead size read)
          ∙ ap (λ ts. ts ++ row_of (Private Subrs) left)
          (inner_token (length left + length bytes + 1) s t is (omega (arith, shorter, behind))
          ∙ ap (λ f. f ∷ tokens_until Other true (length left + length bytes + 1) t.rest) same
          ∙ ap (λ ts. entry_token Other e.first ∷ ts)
          (inner_token (length left + length bytes + 1) t.rest number ahead behind
          ∙ ap (λ ts. plain Other number ∷ ts) (count_and_word number.rest e.word bytes left word)));
    }

-- ---- a part of a list

module _ (old : Row) (mode : PrivateMode) (over : old.is_over ≡ false) (has_turned : HasTurned old) (is_mode : old.mode ≡ Private mode) where
  left_is : (left : Bor (List ℕ)) → row_left (record old { left = left }) ≡ row_of (Private mode) left.now
  left_is left = turned old.ends old.stop old.role old.text.now old.first _ has_turned.0 has_turned.1 ∙ rw (over, is_mode) refl

  pub list_taken : (part : Part) (t : Found) (left : Bor (List ℕ)) → token_ahead old.left.now ≡ Some t → IsFirstPart mode t part left.now
      → BeginsWith part (row_left old) (row_left (record old { left = left }))
  list_taken part t left ahead first =
      subst (λ row. BeginsWith part row (row_left (record old { left = left }))) (sym (left_is old.left))
      (subst (λ after. BeginsWith part (row_of (Private mode) old.left.now) after) (sym (left_is left)) (first old.left.now ahead))
