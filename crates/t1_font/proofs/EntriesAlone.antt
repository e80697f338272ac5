-- What states nothing changes nothing of a font's value.
use Rattle.std.proofs.Common.{◌≡◌, ℕ, Result, Ok, List, [], ◌∷◌, ◌++◌, filter, flat_map, refl, ap, sym, ◌∙◌}
use Rattle.std.proofs.lemmas.Grind.{flat_map-append}
use Rattle.t1_scan.specs.Texts.{lexeme_of}
use Rattle.t1_font.specs.declared.encoding.Encoding.TheVariants.{Standard}
use Rattle.t1_font.specs.declared.unread.Unread.{Unread}
use Rattle.t1_font.specs.Fonts.{Stated, Marks, value_of, plain, encoding, code, size, subr, glyph, size_of, glyph_of}
use Rattle.t1_font.specs.TextTurns.{TextRead}
use Rattle.t1_font.specs.ClearText.{clear_of}
use Rattle.t1_font.specs.PrivateText.{private_of}
use Rattle.t1_font.specs.Texts.{font_value_of}
use Rattle.t1_font.specs.Laws.UsualClearText as clear
use Rattle.t1_font.specs.Laws.UsualPrivateText as private
use Rattle.t1_font.specs.Laws.UsualTexts.{ReadsUsualFonts, AdditionsInClear, AdditionsInPrivate}
use Rattle.t1_font.proofs.ClearItemsRead.{reads_usual_clear}
use Rattle.t1_font.proofs.PrivateRead.{reads_usual_private}

-- The value of what a text is read as.
value_is : (marks : Marks) (r : Result TextRead Unread) (es : List Stated) (rest : List ℕ) → r ≡ Ok (record { stated = es; rest = rest })
    → font_value_of marks r ≡ Ok (value_of marks es)
value_is marks r es rest h = ap (font_value_of marks) h

-- The clear text's entries state what its items do.
codes_same : (items : List clear.CodeItem) → flat_map clear.code_states (filter clear.is_group items) ≡ flat_map clear.code_states items
codes_same [] = refl
codes_same (clear.group n number run ∷ items) = ap (λ es. code n run ∷ es) (codes_same items)
codes_same (clear.between_groups t ∷ items) = codes_same items
codes_same (clear.lone_dup ∷ items) = codes_same items

clear_same : (items : List clear.ClearItem) → clear.all_clear_states (clear.clear_entries items) ≡ clear.all_clear_states items
clear_same [] = refl
clear_same (clear.key k run value ∷ items) = ap (λ es. plain k (lexeme_of value) ∷ es) (clear_same items)
clear_same (clear.noted_key k run value ∷ items) = ap (λ es. plain k (lexeme_of value) ∷ es) (clear_same items)
clear_same (clear.standard ∷ items) = ap (λ es. encoding Standard ∷ es) (clear_same items)
clear_same (clear.custom count codes ∷ items) = rw (codes_same codes, clear_same items) refl
clear_same (clear.other_name run ∷ items) = clear_same items
clear_same (clear.other_token t ∷ items) = clear_same items

pub additions_in_clear : AdditionsInClear
additions_in_clear marks items more s rest text end a b same =
    let states : clear.all_clear_states items ≡ clear.all_clear_states more = sym (clear_same items) ∙ ap clear.all_clear_states same ∙ clear_same more in
    value_is marks (clear_of marks s) (clear.all_clear_states items) rest (reads_usual_clear marks items s rest a)
    ∙ ap (λ es. Ok (value_of marks es)) states
    ∙ sym (value_is marks (clear_of marks text) (clear.all_clear_states more) end (reads_usual_clear marks more text end b))

-- The private text's entries state what its parts do.
keys_same : (items : List private.PrivateItem) → flat_map private.private_states (filter private.is_key items) ≡ flat_map private.private_states items
keys_same [] = refl
keys_same (private.key k run value ∷ items) = ap (λ es. plain k (lexeme_of value) ∷ es) (keys_same items)
keys_same (private.noted_key k run value ∷ items) = ap (λ es. plain k (lexeme_of value) ∷ es) (keys_same items)
keys_same (private.other_name run ∷ items) = keys_same items
keys_same (private.other_token t ∷ items) = keys_same items

subr_items_same : (items : List private.SubrItem) → flat_map private.subr_states (filter private.is_subr items) ≡ flat_map private.subr_states items
subr_items_same [] = refl
subr_items_same (private.subr_entry n number c ∷ items) = ap (λ es. subr n c.bytes ∷ es) (subr_items_same items)
subr_items_same (private.between_subrs t ∷ items) = subr_items_same items

subrs_same : (part : private.SubrsPart) → private.subrs_states (private.subrs_entries part) ≡ private.subrs_states part
subrs_same private.no_subrs = refl
subrs_same (private.empty_subrs body) = refl
subrs_same (private.some_subrs n count items) = ap (λ es. size n ∷ es) (subr_items_same items)

glyphs_same : (items : List private.GlyphItem) → flat_map private.glyph_states (filter private.is_glyph items) ≡ flat_map private.glyph_states items
glyphs_same [] = refl
glyphs_same (private.glyph_entry run c ∷ items) = ap (λ es. glyph run c.bytes ∷ es) (glyphs_same items)
glyphs_same (private.between_glyphs t ∷ items) = glyphs_same items

private_same : (p : private.PrivateParts) → private.all_private_states (private.private_entries p) ≡ private.all_private_states p
private_same p = rw (keys_same p.front, subrs_same p.subrs, keys_same p.back, glyphs_same p.glyphs) refl

pub additions_in_private : AdditionsInPrivate
additions_in_private marks before p q s rest text end none a b same =
    let states : private.all_private_states p ≡ private.all_private_states q = sym (private_same p) ∙ ap private.all_private_states same ∙ private_same q in
    value_is marks (private_of marks before s) (before ++ private.all_private_states p) rest (reads_usual_private marks before p s rest none a)
    ∙ ap (λ es. Ok (value_of marks (before ++ es))) states
    ∙ sym (value_is marks (private_of marks before text) (before ++ private.all_private_states q) end (reads_usual_private marks before q text end none b))

-- A clear text states no charstring.
codes_none : {A : Type 0} (f : Stated → List A) → ((n : ℕ) (run : List ℕ) → f (code n run) ≡ []) → (items : List clear.CodeItem)
    → flat_map f (flat_map clear.code_states items) ≡ []
codes_none f none [] = refl
codes_none f none (clear.group n number run ∷ items) = rw (none n run) (codes_none f none items)
codes_none f none (clear.between_groups t ∷ items) = codes_none f none items
codes_none f none (clear.lone_dup ∷ items) = codes_none f none items

no_size : (items : List clear.ClearItem) → flat_map size_of (clear.all_clear_states items) ≡ []
no_size [] = refl
no_size (clear.key k run value ∷ items) = no_size items
no_size (clear.noted_key k run value ∷ items) = no_size items
no_size (clear.standard ∷ items) = no_size items
no_size (clear.custom count codes ∷ items) =
    flat_map-append size_of (flat_map clear.code_states codes) (clear.all_clear_states items)
    ∙ rw (codes_none size_of (λ n run. refl) codes, no_size items) refl
no_size (clear.other_name run ∷ items) = no_size items
no_size (clear.other_token t ∷ items) = no_size items

no_glyph : (items : List clear.ClearItem) → flat_map glyph_of (clear.all_clear_states items) ≡ []
no_glyph [] = refl
no_glyph (clear.key k run value ∷ items) = no_glyph items
no_glyph (clear.noted_key k run value ∷ items) = no_glyph items
no_glyph (clear.standard ∷ items) = no_glyph items
no_glyph (clear.custom count codes ∷ items) =
    flat_map-append glyph_of (flat_map clear.code_states codes) (clear.all_clear_states items)
    ∙ rw (codes_none glyph_of (λ n run. refl) codes, no_glyph items) refl
no_glyph (clear.other_name run ∷ items) = no_glyph items
no_glyph (clear.other_token t ∷ items) = no_glyph items

pub reads_usual_fonts : ReadsUsualFonts
reads_usual_fonts marks items p s rest text end a b =
    let before = clear.all_clear_states items in
    let none : private.StatesNoCharstring before = record { no_size = no_size items; no_glyph = no_glyph items } in
    value_is marks (private_of marks before text) (before ++ private.all_private_states p) end (reads_usual_private marks before p text end none b)
