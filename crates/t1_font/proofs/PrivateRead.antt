-- A private text in the usual form is read as what its items state.
use Rattle.std.proofs.Common.{◌≡◌, ◌≤◌, ℕ, Ok, Bool, List, [], ◌∷◌, ◌++◌, flat_map, length, refl, ap, ◌∙◌, append_assoc}
use Rattle.std.proofs.lemmas.Grind.{flat_map-append}
use Rattle.t1_font.specs.Keys.{same_name}
use Rattle.t1_font.specs.Fonts.{Stated, Marks, size_of, glyph_of, firsts}
use Rattle.t1_font.specs.PrivateText.{private_of_by}
use Rattle.t1_font.specs.declared.mode.PrivateMode.TheVariants.{Outside}
use Rattle.t1_font.specs.Laws.Written.{IsWritten}
use Rattle.t1_font.specs.Laws.UsualPrivateText.{PrivateItem, key, noted_key, other_name, other_token, private_pieces, private_states, SubrItem, subr_entry, between_subrs, subr_states, SubrsPart, no_subrs, empty_subrs, some_subrs, subrs_pieces, subrs_states, glyph_names, glyph_states, glyphs_pieces, PrivateParts, all_private_pieces, all_private_states, IsUsualParts, StatesNoCharstring}
use Rattle.t1_font.specs.Laws.UsualTexts.{ReadsUsualPrivate}
use Rattle.t1_font.proofs.GlyphNames.{names_of}
use Rattle.t1_font.proofs.GlyphsRead.{glyphs_read}
use Rattle.t1_font.proofs.PrivateItemsRead.{read, mode_of, front_read, back_read}
use Rattle.t1_font.proofs.SubrsRead.{subrs_read}
use Rattle.t1_font.proofs.WrittenRead.{parts}

-- Keys state no size of the Subrs and no glyph; Subrs state no glyph.
pub keys_no_size : (items : List PrivateItem) → flat_map size_of (flat_map private_states items) ≡ []
keys_no_size [] = refl
keys_no_size (key k run value ∷ items) = keys_no_size items
keys_no_size (noted_key k run value ∷ items) = keys_no_size items
keys_no_size (other_name run ∷ items) = keys_no_size items
keys_no_size (other_token t ∷ items) = keys_no_size items

pub keys_no_glyph : (items : List PrivateItem) → flat_map glyph_of (flat_map private_states items) ≡ []
keys_no_glyph [] = refl
keys_no_glyph (key k run value ∷ items) = keys_no_glyph items
keys_no_glyph (noted_key k run value ∷ items) = keys_no_glyph items
keys_no_glyph (other_name run ∷ items) = keys_no_glyph items
keys_no_glyph (other_token t ∷ items) = keys_no_glyph items

subr_items_no_glyph : (items : List SubrItem) → flat_map glyph_of (flat_map subr_states items) ≡ []
subr_items_no_glyph [] = refl
subr_items_no_glyph (subr_entry n number c ∷ items) = subr_items_no_glyph items
subr_items_no_glyph (between_subrs t ∷ items) = subr_items_no_glyph items

pub subrs_no_glyph : (part : SubrsPart) → flat_map glyph_of (subrs_states part) ≡ []
subrs_no_glyph no_subrs = refl
subrs_no_glyph (empty_subrs body) = refl
subrs_no_glyph (some_subrs n count items) = subr_items_no_glyph items

pub none_of_both : {A : Type 0} (f : Stated → List A) (es more : List Stated) → flat_map f es ≡ [] → flat_map f more ≡ [] → flat_map f (es ++ more) ≡ []
none_of_both f es more a b = flat_map-append f es more ∙ rw (a, b) refl

module _ (marks : Marks) (p : PrivateParts) where
  abbrev keys : List Stated
  keys = flat_map private_states p.front

  abbrev subrs : List Stated
  subrs = subrs_states p.subrs

  abbrev others : List Stated
  others = flat_map private_states p.back

  abbrev glyphs : List Stated
  glyphs = flat_map glyph_states p.glyphs

  -- From the end of the Subrs on.
  from_back : (still : Bool) (before : List Stated) (s rest : List ℕ) → IsUsualParts p → flat_map glyph_of before ≡ []
      → IsWritten s (flat_map private_pieces p.back ++ glyphs_pieces p.count p.glyphs) rest → read marks before (mode_of still) s
      ≡ Ok (record { stated = before ++ (others ++ glyphs); rest = rest })
  from_back still before s rest is none h =
      let a = parts s (flat_map private_pieces p.back) (glyphs_pieces p.count p.glyphs) rest h in
      let back = back_read marks p.back still before s a.left is.back is.no_dup a.front in
      let nothing : flat_map glyph_of (before ++ others) ≡ [] = none_of_both glyph_of before others none (keys_no_glyph p.back) in
      let few : length (firsts same_name (names_of (before ++ others) ++ flat_map glyph_names p.glyphs)) ≤ 65535 = rw nothing is.few in
      back.1 ∙ glyphs_read marks back.0 p.count p.glyphs (before ++ others) a.left rest is.count is.glyphs few a.back
      ∙ ap (λ es. Ok (record { stated = es; rest = rest })) (append_assoc before others glyphs)

  -- From the Subrs on.
  from_subrs : (before : List Stated) (s rest : List ℕ) → IsUsualParts p → StatesNoCharstring before
      → IsWritten s (subrs_pieces p.subrs ++ (flat_map private_pieces p.back ++ glyphs_pieces p.count p.glyphs)) rest → read marks before Outside s
      ≡ Ok (record { stated = before ++ (subrs ++ (others ++ glyphs)); rest = rest })
  from_subrs before s rest is none h =
      let a = parts s (subrs_pieces p.subrs) (flat_map private_pieces p.back ++ glyphs_pieces p.count p.glyphs) rest h in
      let first = subrs_read marks p.subrs before s a.left none.no_size is.subrs a.front in
      let nothing : flat_map glyph_of (before ++ subrs) ≡ [] = none_of_both glyph_of before subrs none.no_glyph (subrs_no_glyph p.subrs) in
      first.1 ∙ from_back first.0 (before ++ subrs) a.left rest is nothing a.back
      ∙ ap (λ es. Ok (record { stated = es; rest = rest })) (append_assoc before subrs (others ++ glyphs))

  from_front : (before : List Stated) (s rest : List ℕ) → IsUsualParts p → StatesNoCharstring before → IsWritten s (all_private_pieces p) rest
      → read marks before Outside s ≡ Ok (record { stated = before ++ all_private_states p; rest = rest })
  from_front before s rest is none h =
      let a = parts s (flat_map private_pieces p.front) (subrs_pieces p.subrs ++ (flat_map private_pieces p.back ++ glyphs_pieces p.count p.glyphs)) rest h in
      let after : StatesNoCharstring (before ++ keys) = record {
        no_size = none_of_both size_of before keys none.no_size (keys_no_size p.front);
        no_glyph = none_of_both glyph_of before keys none.no_glyph (keys_no_glyph p.front);
      } in
      front_read marks p.front before s a.left is.front a.front ∙ from_subrs (before ++ keys) a.left rest is after a.back
      ∙ ap (λ es. Ok (record { stated = es; rest = rest })) (append_assoc before keys (subrs ++ (others ++ glyphs)))

pub reads_usual_private : ReadsUsualPrivate
unfolding private_of_by
reads_usual_private marks before p s rest none is = from_front marks p before s rest is.parts none is.written
