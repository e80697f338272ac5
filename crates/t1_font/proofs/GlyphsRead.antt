-- The glyphs of a private text are read as what they state.
use Rattle.std.proofs.Common.{◌≡◌, ◌≤◌, ◌&&◌, ℕ, Bool, true, false, not, nat_le, Some, None, Ok, List, [], ◌∷◌, ◌++◌, flat_map, length, refl, ap, ◌∙◌, append_assoc, codes}
use Rattle.std.proofs.lemmas.List.Elements.{All-head, All-tail}
use Rattle.std.specs.List.{All}
use Rattle.t1_scan.specs.declared.token.Kind.TheVariants.{Name}
use Rattle.t1_scan.specs.Spelling.{Plain, name, word, spelled, meant}
use Rattle.t1_scan.specs.Texts.{BeginsWith}
use Rattle.t1_font.specs.declared.mode.PrivateMode.TheVariants.{Glyphs}
use Rattle.t1_font.specs.declared.unread.Unread.TheVariants.{BadCharStrings}
use Rattle.t1_font.specs.Keys.{same_name}
use Rattle.t1_font.specs.Tokens.{is_word_kind}
use Rattle.t1_font.specs.Fonts.{Stated, Marks, FontValue, value_of, glyph, firsts}
use Rattle.t1_font.specs.TextTurns.{over, goes}
use Rattle.t1_font.specs.PrivateText.{has_key, glyphs_at, glyph_turn, glyphs_token, private_outside, private_turn, private_turn_by, private_outside_by}
use Rattle.t1_font.specs.Laws.Written.{token, IsWritten, is_word_of, Charstring, charstring_pieces, IsCharstring}
use Rattle.t1_font.specs.Laws.UsualPrivateText.{GlyphItem, glyph_entry, between_glyphs, glyph_pieces, glyph_states, glyph_names, IsGlyphItem, IsCount, glyphs_pieces}
use Rattle.t1_font.proofs.GlyphNames.{names_of, names_more, has_room}
use Rattle.t1_font.proofs.PrivateItemsRead.{read, on, nothing_more, outside, name_among, mode_of}
use Rattle.t1_font.proofs.Shorter.{private_shortens}
use Rattle.t1_font.proofs.Steps.{is_over}
use Rattle.t1_font.proofs.WrittenRead.{wanted_is, last_token, parts, natural_is, past_word_is, charstring_is}

-- The name /CharStrings, with its count, dict dup begin.
pub record Header (count : Plain) (s left : List ℕ) : Type 0 where
  pub a : List ℕ
  pub b : List ℕ
  pub c : List ℕ
  pub number : BeginsWith s count a
  pub dict : BeginsWith a (word (codes "dict")) b
  pub dup : BeginsWith b (word (codes "dup")) c
  pub begin : BeginsWith c (word (codes "begin")) left

pub header_is : (count : Plain) (s left : List ℕ) → IsCount count → Header count s left → glyphs_at s ≡ Ok (goes None Glyphs left)
unfolding glyphs_at
header_is count s left is h =
    rw (
      wanted_is BadCharStrings s count h.a h.number,
      natural_is BadCharStrings 65535 is.value count is.whole is.small,
      past_word_is BadCharStrings
          (codes "dict") h.a h.b h.dict,
      past_word_is BadCharStrings (codes "dup") h.b h.c h.dup,
      past_word_is BadCharStrings
          (codes "begin") h.c left h.begin,
    ) refl

pub glyphs_name : (v : FontValue) (rest : List ℕ) → private_outside v Name (codes "/CharStrings") rest ≡ glyphs_at rest
unfolding private_outside_by
glyphs_name v rest = refl

pub name_turn : (still : Bool) (v : FontValue) (s left : List ℕ) → BeginsWith s (name (codes "CharStrings")) left
    → private_turn v (mode_of still) s ≡ glyphs_at left
name_turn true v s left h = name_among v s (codes "CharStrings") left h ∙ glyphs_name v left
name_turn false v s left h = outside v s (name (codes "CharStrings")) left h ∙ glyphs_name v left

-- A token among the glyphs.
among : (v : FontValue) (s : List ℕ) (t : Plain) (left : List ℕ) → BeginsWith s t left → private_turn v Glyphs s ≡ glyphs_token v (meant t) (spelled t) left
unfolding private_turn_by
among v s t left h = rw (wanted_is BadCharStrings s t left h) refl

end_turn : (v : FontValue) (s rest : List ℕ) → BeginsWith s (word (codes "end")) rest → private_turn v Glyphs s ≡ Ok (over rest)
unfolding glyphs_token
end_turn v s rest h = among v s (word (codes "end")) rest h

word_among : (v : FontValue) (t : Plain) (rest : List ℕ) → is_word_kind (meant t) ≡ true → is_word_of (codes "end") t ≡ false
    → glyphs_token v (meant t) (spelled t) rest ≡ Ok (goes None Glyphs rest)
unfolding glyphs_token
word_among v t rest is other = rw (other, is) refl

pub name_among_glyphs : (v : FontValue) (s run left : List ℕ) → BeginsWith s (name run) left → private_turn v Glyphs s ≡ glyph_turn v run left
unfolding glyphs_token
name_among_glyphs v s run left h = among v s (name run) left h

-- A glyph after its name, where there is room for it.
glyph_is : (v : FontValue) (run : List ℕ) (c : Charstring) (s left : List ℕ) → (nat_le 65535 (length v.glyphs) && not (has_key same_name v.glyphs run)) ≡ false
    → IsCharstring c → IsWritten s (charstring_pieces c) left → glyph_turn v run s ≡ Ok (goes (Some (glyph run c.bytes)) Glyphs left)
unfolding glyph_turn
glyph_is v run c s left room good h = rw (room, charstring_is BadCharStrings c s left good h) refl

-- What an item states has its names.
pub item_names : (item : GlyphItem) → names_of (glyph_states item) ≡ glyph_names item
item_names (glyph_entry run c) = refl
item_names (between_glyphs t) = refl

pub items_names : (items : List GlyphItem) → names_of (flat_map glyph_states items) ≡ flat_map glyph_names items
items_names [] = refl
items_names (item ∷ items) = names_more (glyph_states item) (flat_map glyph_states items) ∙ rw (item_names item, items_names items) refl

few_left : (item : GlyphItem) (before : List Stated) (more : List (List ℕ)) → length (firsts same_name (names_of before ++ (glyph_names item ++ more))) ≤ 65535
    → length (firsts same_name (names_of (before ++ glyph_states item) ++ more)) ≤ 65535
few_left item before more few =
    let names : names_of (before ++ glyph_states item) ++ more ≡ names_of before ++ (glyph_names item ++ more) =
    ap (λ xs. xs ++ more) (names_more before (glyph_states item) ∙ ap (λ xs. names_of before ++ xs) (item_names item))
    ∙ append_assoc (names_of before) (glyph_names item) more in
    rw names few

module _ (marks : Marks) where
  item_read : (item : GlyphItem) (before : List Stated) (more : List (List ℕ)) (s left : List ℕ) → IsGlyphItem item
      → length (firsts same_name (names_of before ++ (glyph_names item ++ more))) ≤ 65535 → IsWritten s (glyph_pieces item) left → read marks before Glyphs s
      ≡ read marks (before ++ glyph_states item) Glyphs left
  item_read (glyph_entry run c) before more s left is few h =
      let v = value_of marks before in
      on marks before Glyphs s (Some (glyph run c.bytes)) Glyphs left
      (name_among_glyphs v s run h.0 h.1 ∙ glyph_is v run c h.0 left (has_room marks before run more few) is h.2)
  item_read (between_glyphs t) before more s left is few h =
      let v = value_of marks before in
      let is_word : is_word_kind (meant t) ≡ true = rw is.0 refl in
      on marks before Glyphs s None Glyphs left (among v s t left (last_token s t left h) ∙ word_among v t left is_word is.1)
      ∙ nothing_more marks before Glyphs left

  pub items_read : (items : List GlyphItem) (before : List Stated) (s left : List ℕ) → All IsGlyphItem items
      → length (firsts same_name (names_of before ++ flat_map glyph_names items)) ≤ 65535 → IsWritten s (flat_map glyph_pieces items) left
      → read marks before Glyphs s ≡ read marks (before ++ flat_map glyph_states items) Glyphs left
  items_read [] before s left are few h = ap (read marks before Glyphs) h ∙ nothing_more marks before Glyphs left
  items_read (item ∷ items) before s left are few h =
      let p = parts s (glyph_pieces item) (flat_map glyph_pieces items) left h in
      item_read item before (flat_map glyph_names items) s p.left (All-head IsGlyphItem item items are) few p.front
      ∙ items_read items (before ++ glyph_states item) p.left left (All-tail IsGlyphItem item items are)
      (few_left item before (flat_map glyph_names items) few) p.back
      ∙ ap (λ es. read marks es Glyphs left) (append_assoc before (glyph_states item) (flat_map glyph_states items))

  -- The CharStrings are read to their end, outside or still among the Subrs.
  pub glyphs_read : (still : Bool) (count : Plain) (items : List GlyphItem) (before : List Stated) (s rest : List ℕ) → IsCount count → All IsGlyphItem items
      → length (firsts same_name (names_of before ++ flat_map glyph_names items)) ≤ 65535 → IsWritten s (glyphs_pieces count items) rest
      → read marks before (mode_of still) s ≡ Ok (record { stated = before ++ flat_map glyph_states items; rest = rest })
  glyphs_read still count items before s rest counted are few h =
      let behind = h.2.2.2.2.0 in
      let header : Header count h.0 behind = record {
        a = h.2.0;
        b = h.2.2.0;
        c = h.2.2.2.0;
        number = h.2.1;
        dict = h.2.2.1;
        dup =
            h.2.2.2.1;
        begin = h.2.2.2.2.1;
      } in
      let p = parts behind (flat_map glyph_pieces items) (token (word (codes "end")) ∷ []) rest h.2.2.2.2.2 in
      let all = before ++ flat_map glyph_states items in
      on marks before (mode_of still) s None Glyphs behind (name_turn still (value_of marks before) s h.0 h.1 ∙ header_is count h.0 behind counted header)
      ∙ items_read items before behind p.left are few p.front
      ∙ is_over private_turn BadCharStrings private_shortens marks all Glyphs p.left rest
      (end_turn (value_of marks all) p.left rest (last_token p.left (word (codes "end")) rest p.back))
