-- The statements of laws.
use Rattle.std.specs.Prelude.{◌≡◌, ◌≤◌, ◌==◌, ◌||◌, ◌<◌, not, nat_lt, ℕ, Bool, true, false, List, [], ◌∷◌, ◌++◌, codes, length}
use Rattle.std.specs.Str.{NoCharPasses}
use Rattle.std.specs.List.{AllByRecursion, concat, flat_map, list_all, list_any}
use Rattle.t1_font.specs.Bounds.{most_glyphs}
use Rattle.t1_font.specs.Keys.{same_name}
use Rattle.t1_outline.specs.Outlines.{drawn_of, outline_of}
use Rattle.t1_outline.specs.Parts.{parts_of_both}
use Rattle.t1_picture.specs.Drawings.{all_steps, component_part, components_of, drawing_of, own_part}
use Rattle.t1_picture.specs.Parts.{PartView, drawn_steps, part_arrows, part_outline}
use Rattle.t1_picture.specs.Pictures.{IsPictureOf}
use Rattle.t1_picture.specs.Marks.{faults_of, mark_of_one, pen_at}
use Rattle.t1_picture.specs.Subjects.{Subject, everything, one_fault, up_to}
use Rattle.t1_forms.specs.Xml.{legible, xml_text}
use Rattle.t1_report.specs.Faults.{FaultValue}
use Rattle.t1_report.specs.Waivers.{largest_waivers}

-- A subject has a picture, within the limits that each font and all waivers that are read keep.
abbrev pub HasPicture : Type 0
HasPicture =
    (s : Subject) → length s.font.glyphs ≤ most_glyphs → length s.waivers ≤ largest_waivers →
    (text : List ℕ) × IsPictureOf s text

-- A subject has no two pictures.
abbrev pub HasNoOtherPicture : Type 0
HasNoOtherPicture = (s : Subject) (a b : List ℕ) → IsPictureOf s a → IsPictureOf s b → a ≡ b

-- ---- the outline

-- The outline of a picture is that of the glyph, up to the last step, and then that of each component that is there.
abbrev pub OutlineIsThatOfItsParts : Type 0
OutlineIsThatOfItsParts =
    (s : Subject) →
    (drawing_of s).layers.outline
    ≡ part_outline (own_part s) ++ flat_map (λ p. part_outline (component_part s [] p)) (parts_of_both (components_of s))

-- Nor are its arrows others than those of these parts.
abbrev pub ArrowsAreThoseOfItsParts : Type 0
ArrowsAreThoseOfItsParts =
    (s : Subject) →
    (drawing_of s).layers.arrows ≡ part_arrows (own_part s) ++ flat_map (λ p. part_arrows (component_part s [] p)) (parts_of_both (components_of s))

-- A part of which all steps are drawn, as a component is, and the glyph itself without a step, is drawn by its outline.
abbrev pub WholePartsAreOutlines : Type 0
WholePartsAreOutlines =
    (part : PartView) → part.last ≡ all_steps → drawn_of (drawn_steps part) ≡ outline_of part.edition part.font part.glyph

-- ---- one fault

-- A fault that is shown alone is drawn as far as it is known: one of the font with all steps, and one of a glyph up to its own step.
abbrev pub FontFaultsShowAllSteps : Type 0
FontFaultsShowAllSteps =
    (s : Subject) (fault : FaultValue) → fault.unit ≡ 0 →
    drawing_of (record s { shown = one_fault fault }) ≡ drawing_of (record s { shown = everything })

abbrev pub GlyphFaultsShowTheirSteps : Type 0
GlyphFaultsShowTheirSteps =
    (s : Subject) (fault : FaultValue) → 0 < fault.unit →
    drawing_of (record s { shown = one_fault fault }) ≡ drawing_of (record s { shown = up_to fault.step })

-- Nor is more marked than that fault.
abbrev pub OneFaultIsMarked : Type 0
OneFaultIsMarked =
    (s : Subject) (fault : FaultValue) (faults all : List FaultValue) → 0 < fault.unit →
    (faults_of (record s { shown = one_fault fault }) faults all).marks ≡ mark_of_one (pen_at s fault.step) fault.number ∷ []

-- ---- texts in XML

-- A byte that ends the text of an element or a value in double quotes: `<`, `>` or `"`.
abbrev pub is_markup : ℕ → Bool
is_markup byte = byte == 60 || (byte == 62 || byte == 34)

-- Whatever a text has, none of these is in it as it is written in XML.
abbrev pub TextsHaveNoMarkup : Type 0
TextsHaveNoMarkup = (text : List ℕ) → list_any is_markup (xml_text text) ≡ false

-- The entities that mean a character.
abbrev pub entities : List (List ℕ)
entities = codes "&amp;" ∷ codes "&lt;" ∷ codes "&gt;" ∷ codes "&quot;" ∷ []

-- Bytes without `&`, or one of the entities.
abbrev pub is_piece : List ℕ → Bool
is_piece piece = not (list_any (λ byte. byte == 38) piece) || list_any (same_name piece) entities

-- A text as it is written in XML is made of such pieces: each `&` in it begins an entity.
abbrev pub AmpersandsBeginEntities : Type 0
AmpersandsBeginEntities =
    (text : List ℕ) → (pieces : List (List ℕ)) × (concat pieces ≡ xml_text text) × (list_all is_piece pieces ≡ true)

-- A character that XML can't hold: one below the blank, where XML makes exceptions, U+FFFE and U+FFFF.
abbrev pub is_unfit : ℕ → Bool
is_unfit c = nat_lt c 32 || (c == 0xFFFE || c == 0xFFFF)

-- A name of bytes, or a line with one, is text of characters that XML can hold.
abbrev pub LegibleTextsAreFit : Type 0
LegibleTextsAreFit = (name : List ℕ) → AllByRecursion (λ byte. byte < 256) name → NoCharPasses is_unfit (legible name)
