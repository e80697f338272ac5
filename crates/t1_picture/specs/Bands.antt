-- Bands across the drawing: stems and alignment zones. Type 1 Font Format 1.1, chapters 5 and 6.
use Rattle.std.specs.Prelude.{ℕ, zero, suc, ◌+◌, ◌*◌, ℤ, pos, neg_ℤ, ◌+ℤ◌, ◌&&◌, Bool, Option, Some, List, [], ◌++◌, codes, if◌then◌else◌, slice_get, slice_index_or}
use Rattle.std.specs.Ordering.{int_eq}
use Rattle.t1_char.specs.declared.edition.Edition.{Edition}
use Rattle.t1_char.specs.Editions.{knows_one_edge}
use Rattle.t1_char.specs.Numbers.{unit}
use Rattle.t1_font.specs.declared.key.Key.TheVariants.{BlueValues, OtherBlues}
use Rattle.t1_font.specs.Fonts.{FontValue}
use Rattle.t1_font.specs.Keys.{index_of}
use Rattle.t1_font.specs.Values.{Value, absent, numbers}
use Rattle.t1_picture.specs.declared.bands.Band.{Band}
use Rattle.t1_drawing.specs.declared.direction.Direction.{Direction}
use Rattle.t1_drawing.specs.declared.direction.Direction.TheVariants.{Across, Upright}
use Rattle.t1_picture.specs.declared.bounds.Bounds.{Bounds}
use Rattle.t1_reason_texts.specs.declared.decimals.Exact.{Exact}
use Rattle.t1_picture.specs.declared.frame.Frame.{Frame}
use Rattle.t1_picture.specs.Bounds.{kept, with_x, with_y}
use Rattle.t1_reason_texts.specs.Decimals.{coordinate_of, exact_text, value_of}
use Rattle.t1_picture.specs.Frames.{length_of}
use Rattle.t1_rules.specs.declared.step_rules.stems.Stem.{Stem}
use Rattle.t1_rules.specs.StepRules.Stems.{has_one_edge, lower, upper}

-- The edge that a stem of one edge means: of width -20 the one at its position, of width -21 the other one.
abbrev pub one_edge : Stem → ℤ
one_edge stem = if int_eq stem.width (neg_ℤ (pos (20 * unit))) then upper stem else lower stem

-- The edges of a stem as it is drawn: one of width -20 or -21 is one edge where the edition knows such stems.
abbrev pub lower_edge : Edition → Stem → ℤ
lower_edge edition stem = if knows_one_edge edition && has_one_edge stem then one_edge stem else lower stem

abbrev pub upper_edge : Edition → Stem → ℤ
upper_edge edition stem = if knows_one_edge edition && has_one_edge stem then one_edge stem else upper stem

-- Its band, given what its position counts from.
abbrev pub band_of : Direction → ℤ → Edition → Stem → Band
band_of direction start edition stem =
    record {
      direction = direction;
      lower = kept (start +ℤ lower_edge edition stem);
      upper = kept (start +ℤ upper_edge edition stem);
    }

-- How far it reaches, across its direction.
abbrev pub with_edges : Direction → Bounds → ℤ → ℤ → Bounds
with_edges Across bounds low high = with_y (with_y bounds low) high
with_edges Upright bounds low high = with_x (with_x bounds low) high

abbrev pub with_band : Bounds → Band → Bounds
with_band bounds band = with_edges band.direction bounds band.lower band.upper

-- The two edges are one.
abbrev pub is_one_edge : Exact → Exact → Bool
is_one_edge low high = int_eq low.number high.number

-- A line from left to right, and a box.
unfoldable pub across_line : Exact → Exact → Exact → List ℕ
across_line left y right =
    codes "<path d=\"M" ++ (exact_text left ++ (codes " " ++ (exact_text y ++ (codes "H" ++ (exact_text right ++ codes "\"/>\n")))))

unfoldable pub across_box : Exact → Exact → Exact → Exact → List ℕ
across_box left low right high =
    codes "<path d=\"M" ++ (exact_text left ++ (codes " " ++ (exact_text low ++ (codes "H" ++ (exact_text right
    ++ (codes "V" ++ (exact_text high ++ (codes "H" ++ (exact_text left ++ codes "Z\"/>\n")))))))))

-- A line from bottom to top, and a box.
unfoldable pub upright_line : Exact → Exact → Exact → List ℕ
upright_line x bottom top =
    codes "<path d=\"M" ++ (exact_text x ++ (codes " " ++ (exact_text bottom ++ (codes "V" ++ (exact_text top ++ codes "\"/>\n")))))

unfoldable pub upright_box : Exact → Exact → Exact → Exact → List ℕ
upright_box low bottom high top =
    codes "<path d=\"M" ++ (exact_text low ++ (codes " " ++ (exact_text bottom ++ (codes "V" ++ (exact_text top
    ++ (codes "H" ++ (exact_text high ++ (codes "V" ++ (exact_text bottom ++ codes "Z\"/>\n")))))))))

-- A line in a direction, from edge to edge.
abbrev pub line_text : Direction → Frame → Exact → List ℕ
line_text Across frame y = across_line (length_of frame frame.left) y (length_of frame frame.right)
line_text Upright frame x = upright_line x (length_of frame frame.bottom) (length_of frame frame.top)

-- A band from left to right; one whose edges are the same is a line.
abbrev pub across_text : Frame → Exact → Exact → List ℕ
across_text frame low high =
    if is_one_edge low high then across_line (length_of frame frame.left) low (length_of frame frame.right)
    else across_box (length_of frame frame.left) low (length_of frame frame.right) high

-- A band from bottom to top.
abbrev pub upright_text : Frame → Exact → Exact → List ℕ
upright_text frame low high =
    if is_one_edge low high then upright_line low (length_of frame frame.bottom) (length_of frame frame.top)
    else upright_box low (length_of frame frame.bottom) high (length_of frame frame.top)

abbrev pub edges_text : Direction → Frame → ℤ → ℤ → List ℕ
edges_text Across frame low high = across_text frame (coordinate_of low) (coordinate_of high)
edges_text Upright frame low high = upright_text frame (coordinate_of low) (coordinate_of high)

abbrev pub band_text : Frame → Band → List ℕ
band_text frame band = edges_text band.direction frame band.lower band.upper

-- A zone of a list, the first of which is 0: a pair of its numbers; a last number alone is none.
abbrev pub zone_by : Frame → Option ℤ → Option ℤ → List ℕ
zone_by frame (Some low) (Some high) = across_text frame (value_of low) (value_of high)
zone_by frame _ _ = []

abbrev pub zone_text : Frame → List ℤ → ℕ → List ℕ
zone_text frame list zone = zone_by frame (slice_get list (2 * zone)) (slice_get list (2 * zone + 1))

-- So many zones from one on.
unfoldable pub zones_from : Frame → List ℤ → ℕ → ℕ → List ℕ
zones_from frame list zone zero = []
zones_from frame list zone (suc n) = zone_text frame list zone ++ zones_from frame list (zone + 1) n

abbrev pub zones_text : Frame → ℕ → Value → List ℕ
zones_text frame most (numbers count first) = zones_from frame first 0 most
zones_text frame most _ = []

-- Of BlueValues the first 14 numbers are zones, of OtherBlues the first 10.
abbrev pub zones_in : Frame → FontValue → List ℕ
zones_in frame font =
    zones_text frame 7 (slice_index_or font.plain (index_of BlueValues) absent)
    ++ zones_text frame 5 (slice_index_or font.plain (index_of OtherBlues) absent)
