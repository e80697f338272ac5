-- The Subrs of a private text are read as what they state.
use Rattle.std.proofs.Common.{◌≡◌, ◌≤◌, ◌-◌, ℕ, suc, Bool, true, false, if◌then◌else◌, Option, Some, None, Result, Ok, Err, is_some, List, [], ◌∷◌, ◌++◌, flat_map, length, refl, ap, ◌∙◌, append_assoc, codes, arith, length-append}
use Rattle.std.proofs.Math.Seq.{take-append_seam}
use Rattle.std.proofs.lemmas.List.Elements.{All-head, All-tail}
use Rattle.std.specs.List.{All}
use Rattle.t1_scan.specs.declared.error.ScanError.{ScanError}
use Rattle.t1_scan.specs.declared.token.Kind.TheVariants.{Name}
use Rattle.t1_scan.specs.Tokens.{Found}
use Rattle.t1_scan.specs.Spelling.{Plain, name, word, bracketed, Body, body_text, spelled, meant}
use Rattle.t1_scan.specs.Texts.{BeginsWith, are_blanks}
use Rattle.t1_scan.proofs.TokensFound.{ends_in_blanks}
use Rattle.t1_font.specs.declared.mode.PrivateMode.{PrivateMode}
use Rattle.t1_font.specs.declared.mode.PrivateMode.TheVariants.{Outside, Subrs}
use Rattle.t1_font.specs.declared.unread.Unread.{Unread}
use Rattle.t1_font.specs.declared.unread.Unread.TheVariants.{BadSubrs}
use Rattle.t1_font.specs.Tokens.{token_at, inside_of, is_array_kind, is_number_kind, is_word_kind}
use Rattle.t1_font.specs.Fonts.{Stated, Marks, FontValue, value_of, size, subr, size_of}
use Rattle.t1_font.specs.TextTurns.{TextTurn, goes}
use Rattle.t1_font.specs.PrivateText.{is_blank_text, subrs_at, subrs_turn, subr_at, dup_turn, subrs_token, private_outside, private_turn, private_outside_by, subrs_token_by}
use Rattle.t1_font.specs.Laws.Written.{IsWritten, IsWhole, is_word_of, Charstring, charstring_pieces, IsCharstring}
use Rattle.t1_font.specs.Laws.UsualPrivateText.{SubrItem, subr_entry, between_subrs, subr_pieces, subr_states, IsSubrItem, SubrsPart, no_subrs, empty_subrs, some_subrs, subrs_pieces, subrs_states, IsSubrsPart}
use Rattle.t1_font.proofs.PrivateItemsRead.{read, on, nothing_more, outside, among, mode_of}
use Rattle.t1_font.proofs.WrittenRead.{wanted_is, ahead_is, last_token, parts, natural_is, whole_is_number, past_word_is, charstring_is}

-- The name /Subrs, where none came before it.
pub no_size : (marks : Marks) (before : List Stated) → flat_map size_of before ≡ [] → is_some (value_of marks before).size ≡ false
unfolding value_of
no_size marks before none = rw none refl

pub subrs_name : (v : FontValue) (rest : List ℕ) → is_some v.size ≡ false → private_outside v Name (codes "/Subrs") rest ≡ subrs_at rest
unfolding private_outside_by subrs_turn
subrs_name v rest none = rw none refl

-- A count and the word array.
pub no_array : (t : Plain) (n : ℕ) → IsWhole t n → is_array_kind (meant t) ≡ false
no_array t n h = rw h refl

counted_is : (count : Plain) (n : ℕ) (s mid left : List ℕ) → IsWhole count n → n ≤ 65535 → BeginsWith s count mid → BeginsWith mid (word (codes "array")) left
    → subrs_at s ≡ Ok (goes (Some (size n)) Subrs left)
unfolding subrs_at
counted_is count n s mid left is small h k =
    rw (
      wanted_is BadSubrs s count mid h,
      no_array count n is,
      natural_is BadSubrs 65535 n count is small,
      past_word_is BadSubrs
          (codes "array") mid left k,
    ) refl

-- An array with nothing but blanks in it.
inside_is : (body : Body) → inside_of (spelled (bracketed body)) ≡ body_text body
inside_is body =
    let len : suc (length (body_text body ++ 93 ∷ [])) - 2 ≡ length (body_text body) = omega (arith, length-append (body_text body) (93 ∷ [])) in
    rw len (take-append_seam (body_text body) (93 ∷ []))

blank_is : (s : List ℕ) → are_blanks false s ≡ true → is_blank_text s ≡ true
unfolding is_blank_text token_at
blank_is s h = ap (λ (r : Result (Option Found) ScanError). elim r [ Err _ ↦ false | Ok found ↦ elim found [ None ↦ true | Some _ ↦ false ] ])
    ((ends_in_blanks s).1 h)

empty_is : (body : Body) (s left : List ℕ) → are_blanks false (body_text body) ≡ true → BeginsWith s (bracketed body) left
    → subrs_at s ≡ Ok (goes (Some (size 0)) Outside left)
unfolding subrs_at
empty_is body s left blanks h =
    let inside : is_blank_text (inside_of (spelled (bracketed body))) ≡ true = ap is_blank_text (inside_is body) ∙ blank_is (body_text body) blanks in
    rw (wanted_is BadSubrs s (bracketed body) left h, inside) refl

-- A Subr after its dup.
subr_is : (n : ℕ) (number : Plain) (c : Charstring) (s left : List ℕ) → IsWhole number n → n ≤ 65534 → IsCharstring c → IsWritten s (charstring_pieces c) left
    → subr_at (meant number) s ≡ Ok (goes (Some (subr n c.bytes)) Subrs left)
unfolding subr_at
subr_is n number c s left is small good h = rw (natural_is BadSubrs 65534 n number is small, charstring_is BadSubrs c s left good h) refl

-- A number after a dup begins a Subr.
abbrev pub behind_dup : List ℕ → Option Found → Result (TextTurn PrivateMode) Unread
behind_dup rest r = elim r [
  | None ↦ Ok (goes None Outside rest)
  | Some t ↦ if is_number_kind t.kind then subr_at t.kind t.rest else Ok (goes None Outside rest)
]

pub number_is : (n : ℕ) (number : Plain) (s mid : List ℕ) → IsWhole number n → BeginsWith s number mid → dup_turn s ≡ subr_at (meant number) mid
unfolding dup_turn
number_is n number s mid is h = ap (behind_dup s) (ahead_is s number mid h) ∙ rw (whole_is_number number n is) refl

pub dup_among : (v : FontValue) (s left : List ℕ) → BeginsWith s (word (codes "dup")) left → private_turn v Subrs s ≡ dup_turn left
unfolding subrs_token_by
dup_among v s left h = among v s (word (codes "dup")) left h

word_among : (v : FontValue) (t : Plain) (rest : List ℕ) → is_word_kind (meant t) ≡ true → is_word_of (codes "dup") t ≡ false
    → subrs_token v (meant t) (spelled t) rest ≡ Ok (goes None Subrs rest)
unfolding subrs_token_by
word_among v t rest is other = rw (other, is) refl

module _ (marks : Marks) where
  item_read : (item : SubrItem) (before : List Stated) (s left : List ℕ) → IsSubrItem item → IsWritten s (subr_pieces item) left
      → read marks before Subrs s ≡ read marks (before ++ subr_states item) Subrs left
  item_read (subr_entry n number c) before s left is h =
      on marks before Subrs s (Some (subr n c.bytes)) Subrs left
      (dup_among (value_of marks before) s h.0 h.1 ∙ number_is n number h.0 h.2.0 is.0 h.2.1 ∙ subr_is n number c h.2.0 left is.0 is.1 is.2 h.2.2)
  item_read (between_subrs t) before s left is h =
      let is_word : is_word_kind (meant t) ≡ true = rw is.0 refl in
      on marks before Subrs s None Subrs left (among (value_of marks before) s t left (last_token s t left h)
      ∙ word_among (value_of marks before) t left is_word is.1)
      ∙ nothing_more marks before Subrs left

  items_read : (items : List SubrItem) (before : List Stated) (s left : List ℕ) → All IsSubrItem items → IsWritten s (flat_map subr_pieces items) left
      → read marks before Subrs s ≡ read marks (before ++ flat_map subr_states items) Subrs left
  items_read [] before s left are h = ap (read marks before Subrs) h ∙ nothing_more marks before Subrs left
  items_read (item ∷ items) before s left are h =
      let p = parts s (subr_pieces item) (flat_map subr_pieces items) left h in
      item_read item before s p.left (All-head IsSubrItem item items are) p.front
      ∙ items_read items (before ++ subr_states item) p.left left (All-tail IsSubrItem item items are) p.back
      ∙ ap (λ es. read marks es Subrs left) (append_assoc before (subr_states item) (flat_map subr_states items))

  -- Subrs that have a count are read, and reading goes on among them.
  pub some_subrs_read : (n : ℕ) (count : Plain) (items : List SubrItem) (before : List Stated) (s left : List ℕ) → flat_map size_of before ≡ []
      → IsSubrsPart (some_subrs n count items) → IsWritten s (subrs_pieces (some_subrs n count items)) left → read marks before Outside s ≡ read marks
      (before ++ subrs_states (some_subrs n count items)) Subrs left
  some_subrs_read n count items before s left none is h =
      let v = value_of marks before in
      on marks before Outside s (Some (size n)) Subrs h.2.2.0 (outside v s (name (codes "Subrs")) h.0 h.1 ∙ subrs_name v h.0 (no_size marks before none)
      ∙ counted_is count n h.0 h.2.0 h.2.2.0 is.0 is.1 h.2.1 h.2.2.1)
      ∙ items_read items (before ++ size n ∷ []) h.2.2.0 left is.2 h.2.2.2
      ∙ ap (λ es. read marks es Subrs left) (append_assoc before (size n ∷ []) (flat_map subr_states items))

  -- The Subrs are read, and then reading goes on outside or still among them.
  pub subrs_read : (part : SubrsPart) (before : List Stated) (s left : List ℕ) → flat_map size_of before ≡ [] → IsSubrsPart part
      → IsWritten s (subrs_pieces part) left → (still : Bool) × (read marks before Outside s ≡ read marks (before ++ subrs_states part) (mode_of still) left)
  subrs_read no_subrs before s left none is h = (false, ap (read marks before Outside) h ∙ nothing_more marks before Outside left)
  subrs_read (empty_subrs body) before s left none is h =
      let v = value_of marks before in (
        false,
        on marks before Outside s (Some (size 0)) Outside left (outside v s (name (codes "Subrs")) h.0 h.1 ∙ subrs_name v h.0 (no_size marks before none)
            ∙ empty_is body h.0 left is (last_token h.0 (bracketed body) left h.2)),
      )
  subrs_read (some_subrs n count items) before s left none is h = (true, some_subrs_read n count items before s left none is h)
