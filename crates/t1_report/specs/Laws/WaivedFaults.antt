-- What waivers leave of a report, and which waivers have no say.
use Rattle.std.specs.Prelude.{◌≡◌, ◌↔◌, ℕ, zero, suc, ◌+◌, ◌<◌, nat_le, not, Bool, true, false, Some, Ok, List, [], ◌∷◌, ◌++◌, length, map, slice_get}
use Rattle.std.specs.List.{filter}
use Rattle.t1_char.specs.declared.edition.Edition.{Edition}
use Rattle.t1_font.specs.FontFiles.{font_in}
use Rattle.t1_font.specs.Fonts.{FontValue, glyph_name}
use Rattle.t1_rules.specs.declared.rule.Rule.TheVariants.{U01}
use Rattle.t1_rules.specs.Book.{number_of}
use Rattle.t1_report.specs.Checked.{CheckedFont}
use Rattle.t1_report.specs.Faults.{FaultValue}
use Rattle.t1_report.specs.Reports.{IsReport, Place, is_told, place_of}
use Rattle.t1_report.specs.Waivers.{Waiver, is_waived, lines_read}

-- A fault without its number.
abbrev pub bare : FaultValue → FaultValue
bare fault = record fault { number = 0 }

-- A place in the font or in a glyph.
abbrev pub is_in_font : CheckedFont → Place → Bool
is_in_font font p = nat_le p.unit (length font.value.glyphs)

-- A place that no waiver speaks of: in the font, or in a glyph for whose name its rule isn't waived.
abbrev pub is_left_in : CheckedFont → List Waiver → ℕ → ℕ → Bool
is_left_in font waivers zero n = true
is_left_in font waivers (suc glyph) n = not (is_waived waivers (glyph_name font.value glyph) n)

abbrev pub is_left : CheckedFont → List Waiver → Place → Bool
is_left font waivers p = is_left_in font waivers p.unit (number_of p.rule)

-- Of these faults those at such places, in order, without their numbers.
abbrev pub faults_at : (Place → Bool) → List FaultValue → List FaultValue
faults_at test faults = map bare (filter (λ fault. test (place_of fault)) faults)

-- The faults of the font and its glyphs with waivers are those without, in order, less those that are waived.
abbrev pub WaivedFaultsAreLeftOut : Type 0
WaivedFaultsAreLeftOut =
    (font : CheckedFont) (waivers : List Waiver) (told broken : List FaultValue) →
    IsReport font waivers told → IsReport font [] broken →
    faults_at (is_in_font font) told ≡ faults_at (is_left font waivers) broken

-- No two glyphs have one name.
abbrev pub HasNoNameTwice : FontValue → Type 0
HasNoNameTwice font =
    (one other : ℕ) → one < length font.glyphs → other < length font.glyphs →
    glyph_name font one ≡ glyph_name font other → one ≡ other

-- So it is in the font that any bytes are read as.
abbrev pub FontsHaveNoNameTwice : Type 0
FontsHaveNoNameTwice = (bytes : List ℕ) (font : FontValue) → font_in bytes ≡ Ok font → HasNoNameTwice font

-- A waiver is reported as unused exactly where the faults of the font and its glyphs are the same without it.
abbrev pub UnusedWaiversChangeNothing : Type 0
UnusedWaiversChangeNothing =
    (font : CheckedFont) (front back : List Waiver) (w : Waiver) (told without : List FaultValue) →
    HasNoNameTwice font.value → is_waived (front ++ back) w.0 (number_of w.1) ≡ false →
    IsReport font (front ++ w ∷ back) told → IsReport font (front ++ back) without →
    (is_told font (front ++ w ∷ back) (length font.value.glyphs + 1) (length front + 1) (number_of U01) ≡ true)
    ↔ (faults_at (is_in_font font) told ≡ faults_at (is_in_font font) without)

-- With the same waivers in another order the faults of the font and its glyphs are the same. So is whether
-- each waiver is reported as unused, at its place.
abbrev pub OrderLeavesFaults : Type 0
OrderLeavesFaults =
    (font : CheckedFont) (waivers others : List Waiver) (told other : List FaultValue) →
    ((name : List ℕ) (n : ℕ) → is_waived waivers name n ≡ is_waived others name n) →
    IsReport font waivers told → IsReport font others other →
    faults_at (is_in_font font) told ≡ faults_at (is_in_font font) other

abbrev pub OrderLeavesUses : Type 0
OrderLeavesUses =
    (font : CheckedFont) (waivers others : List Waiver) (w : Waiver) (i j n : ℕ) →
    slice_get waivers i ≡ Some w → slice_get others j ≡ Some w →
    is_told font waivers (length font.value.glyphs + 1) (i + 1) n
    ≡ is_told font others (length font.value.glyphs + 1) (j + 1) n

-- A line that was there before says nothing more.
abbrev pub RepeatedLinesSayNothing : Type 0
RepeatedLinesSayNothing =
    (edition : Edition) (front middle back : List (List ℕ)) (line : List ℕ) →
    lines_read edition [] (front ++ line ∷ (middle ++ line ∷ back)) ≡ lines_read edition [] (front ++ line ∷ (middle ++ back))
