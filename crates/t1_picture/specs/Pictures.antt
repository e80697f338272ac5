-- The picture as a text: SVG 1.1.
use Rattle.std.specs.Prelude.{◌≡◌, ℕ, ◌+◌, ◌-◌, ◌==◌, ◌^◌, max, min, ℤ, pos, ◌+ℤ◌, if◌then◌else◌, Option, None, Some, List, [], ◌∷◌, ◌++◌, codes, length}
use Rattle.std.specs.Fmt.{decimal, signed_decimal}
use Rattle.std.specs.List.{flat_map}
use Rattle.std.specs.Str.{chars}
use Rattle.t1_font.specs.Fonts.{FontValue}
use Rattle.t1_outline.specs.declared.composition.Metrics.{Metrics}
use Rattle.t1_picture.specs.declared.bands.Band.{Band}
use Rattle.t1_picture.specs.declared.bounds.Bounds.{Bounds}
use Rattle.t1_picture.specs.declared.causes.Cause.{Cause}
use Rattle.t1_reason_texts.specs.declared.decimals.Exact.{Exact}
use Rattle.t1_picture.specs.declared.frame.Frame.{Frame}
use Rattle.t1_picture.specs.declared.marks.FaultMark.{FaultMark}
use Rattle.t1_picture.specs.Bands.{band_text, upright_line, with_band, zones_in}
use Rattle.t1_picture.specs.Bounds.{kept, with_point, with_x}
use Rattle.t1_picture.specs.CauseTexts.{cause_lines_part, cause_points_part, causes_part, cross_text, edges_part, with_causes}
use Rattle.t1_reason_texts.specs.Decimals.{coordinate_of, exact_text}
use Rattle.t1_picture.specs.Drawings.{DrawingView, drawing_of}
use Rattle.t1_picture.specs.Frames.{frame_of, height_of, legend_left_of, legend_line_of, length_of, opposite, units_of, width_of}
use Rattle.t1_picture.specs.Layers.{LayersView, mark_text}
use Rattle.t1_picture.specs.Legends.{legend_of, title_of}
use Rattle.t1_picture.specs.Marks.{AreShownOf, FaultLayersView, FaultsView, fault_layers, faults_of}
use Rattle.t1_picture.specs.Starts.{marks_start, numbers_start, path_start}
use Rattle.t1_picture.specs.Subjects.{Subject}
use Rattle.t1_forms.specs.Xml.{xml_text}
use Rattle.t1_report.specs.Faults.{FaultValue}
use Rattle.t1_rules.specs.StepRules.Flex.{at}

-- ---- the frame

-- With each band, with sidebearing and width, with each mark, and with what reasons name.
abbrev pub with_all_bands : Bounds → List Band → Bounds
with_all_bands b [] = b
with_all_bands b (band ∷ bands) = with_all_bands (with_band b band) bands

abbrev pub with_metrics : Bounds → Option Metrics → Bounds
with_metrics b None = b
with_metrics b (Some metrics) = with_x (with_point b (at metrics.x metrics.y)) metrics.width

abbrev pub with_marks : Bounds → List FaultMark → Bounds
with_marks b [] = b
with_marks b (mark ∷ marks) = with_marks (with_point b mark.point) marks

abbrev pub bounds_of : DrawingView → FaultsView → Bounds
bounds_of drawing faults =
    with_causes
    (with_marks (with_metrics (with_all_bands drawing.layers.bounds drawing.layers.bands) drawing.composition.metrics) faults.marks)
    faults.causes

-- ---- before the drawing

-- How many letters a line has, and the longest of some lines.
abbrev pub letters_of : List ℕ → ℕ
letters_of line = min (length (chars line)) (2 ^ 64 - 1)

abbrev pub columns_from : ℕ → List (List ℕ) → ℕ
columns_from most [] = most
columns_from most (line ∷ lines) = columns_from (max most (letters_of line)) lines

unfoldable pub svg_start : List ℕ
svg_start =
    codes "<?xml version=\"1.0\" encoding=\"UTF-8\"?>\n<svg xmlns=\"http://www.w3.org/2000/svg\" xmlns:xlink=\"http://www.w3.org/1999/xlink\" version=\"1.1\""

-- The size, in units.
unfoldable pub size_text : ℤ → ℤ → List ℕ
size_text width height =
    codes " width=\"" ++ (signed_decimal width ++ (codes "\" height=\"" ++ (signed_decimal height ++ codes "\"")))

-- The part of the plane that is shown: its upper left corner, how wide and how high it is.
unfoldable pub view_box_text : Exact → Exact → Exact → Exact → List ℕ
view_box_text x y across down =
    codes " viewBox=\"" ++ (exact_text x ++ (codes " " ++ (exact_text y ++ (codes " " ++ (exact_text across
    ++ (codes " " ++ (exact_text down ++ codes "\">\n")))))))

unfoldable pub title_text : List ℕ → List ℕ
title_text title = codes "<title>" ++ (xml_text title ++ codes "</title>\n")

-- The form of a point, or of the end of an open path, and those of a control point and of a mark.
unfoldable pub square_text : List ℕ → Exact → List ℕ
square_text id size =
    codes "<path id=\"" ++ (id ++ (codes "\" d=\"M-" ++ (exact_text size ++ (codes " -" ++ (exact_text size
    ++ (codes "H" ++ (exact_text size ++ (codes "V" ++ (exact_text size
    ++ (codes "H-" ++ (exact_text size ++ codes "Z\"/>\n")))))))))))

unfoldable pub circles_text : Exact → Exact → List ℕ
circles_text size radius =
    codes "<circle id=\"off\" r=\"" ++ (exact_text size
    ++ (codes "\"/>\n<circle id=\"mark\" r=\"" ++ (exact_text radius ++ codes "\"/>\n")))

-- The forms of what reasons name.
unfoldable pub cause_forms : Exact → Exact → List ℕ
cause_forms cross end = cross_text cross ++ square_text (codes "end") end

-- The frame, by which zones are cut.
unfoldable pub clip_text : Exact → Exact → Exact → Exact → List ℕ
clip_text left bottom right top =
    codes "<clipPath id=\"frame\"><path d=\"M" ++ (exact_text left ++ (codes " " ++ (exact_text bottom
    ++ (codes "H" ++ (exact_text right ++ (codes "V" ++ (exact_text top
    ++ (codes "H" ++ (exact_text left ++ codes "Z\"/></clipPath>\n")))))))))

-- All forms, by their sizes: of a point, and of a mark and a cross; of an end.
unfoldable pub forms_text : Exact → Exact → Exact → List ℕ
forms_text size radius end = square_text (codes "on") size ++ (circles_text size radius ++ cause_forms radius end)

unfoldable pub defs_text : Frame → List ℕ
defs_text frame =
    codes "<defs>\n"
    ++ (forms_text (length_of frame (pos 4)) (length_of frame (pos 9)) (length_of frame (pos 7))
    ++ (clip_text (length_of frame frame.left) (length_of frame frame.bottom) (length_of frame frame.right) (length_of frame frame.top)
    ++ codes "</defs>\n"))

-- What lies below all.
unfoldable pub ground_text : Exact → Exact → Exact → Exact → List ℕ
ground_text x y across down =
    codes "<rect x=\"" ++ (exact_text x ++ (codes "\" y=\"" ++ (exact_text y
    ++ (codes "\" width=\"" ++ (exact_text across ++ (codes "\" height=\"" ++ (exact_text down
    ++ codes "\" fill=\"white\"/>\n")))))))

unfoldable pub plane_text : Frame → ℤ → ℤ → List ℕ
plane_text frame width height =
    svg_start
    ++ (size_text width height
    ++ view_box_text (length_of frame frame.left) (length_of frame (opposite frame.top)) (length_of frame width)
    (length_of frame height))

unfoldable pub ground_part : Frame → ℤ → ℤ → List ℕ
ground_part frame width height =
    ground_text (length_of frame frame.left) (length_of frame (opposite frame.top)) (length_of frame width) (length_of frame height)

unfoldable pub head_by : Frame → ℤ → ℤ → List ℕ → List ℕ
head_by frame width height title =
    plane_text frame width height ++ (title_text title ++ (defs_text frame ++ ground_part frame width height))

abbrev pub head_text : Frame → List ℕ → List (List ℕ) → List ℕ
head_text frame title lines =
    head_by frame (width_of frame (columns_from 0 lines)) (height_of frame (length lines)) title

-- ---- the drawing, from back to front, y upwards

unfoldable pub zones_start : List ℕ
zones_start = codes "<g id=\"zones\" clip-path=\"url(#frame)\" fill=\"green\" fill-opacity=\"0.15\" stroke=\"green\" stroke-opacity=\"0.5\">\n"

unfoldable pub zones_part : Frame → FontValue → List ℕ
zones_part frame font = zones_start ++ (zones_in frame font ++ codes "</g>\n")

unfoldable pub stems_start : List ℕ
stems_start = codes "<g id=\"stems\" fill=\"blue\" fill-opacity=\"0.15\" stroke=\"blue\" stroke-opacity=\"0.5\">\n"

unfoldable pub stems_part : Frame → List Band → List ℕ
stems_part frame bands = stems_start ++ (flat_map (band_text frame) bands ++ codes "</g>\n")

-- Sidebearing and width, from bottom to top.
unfoldable pub place_line : Frame → ℤ → List ℕ
place_line frame x = upright_line (coordinate_of x) (length_of frame frame.bottom) (length_of frame frame.top)

unfoldable pub metrics_text : Frame → Option Metrics → List ℕ
metrics_text frame None = []
metrics_text frame (Some metrics) = place_line frame metrics.x ++ place_line frame metrics.width

unfoldable pub base_line : Exact → Exact → List ℕ
base_line left right = codes "<path d=\"M" ++ (exact_text left ++ (codes " 0H" ++ (exact_text right ++ codes "\"/>\n")))

unfoldable pub lines_start : List ℕ
lines_start = codes "<g id=\"lines\" stroke=\"gray\">\n"

-- Base line, sidebearing and width.
unfoldable pub lines_part : Frame → Option Metrics → List ℕ
lines_part frame metrics =
    lines_start
    ++ (base_line (length_of frame frame.left) (length_of frame frame.right) ++ (metrics_text frame metrics ++ codes "</g>\n"))

-- A path after its start: its data, and the end.
abbrev pub path_text : List ℕ → List ℕ
path_text text = text ++ codes "\"/>\n"

unfoldable pub outline_start : List ℕ
outline_start =
    codes "<path id=\"outline\" fill=\"black\" fill-opacity=\"0.25\" fill-rule=\"nonzero\" stroke=\"black\" d=\"\n"

unfoldable pub handles_start : List ℕ
handles_start = codes "<path id=\"handles\" stroke=\"gray\" d=\"\n"

unfoldable pub open_start : Exact → Exact → List ℕ
open_start broad dash =
    codes "<path id=\"open\" stroke=\"red\" stroke-width=\"" ++ (exact_text broad
    ++ (codes "\" stroke-dasharray=\"" ++ (exact_text dash ++ codes "\" d=\"\n")))

unfoldable pub open_text : Frame → List ℕ → List ℕ
open_text frame text = open_start (length_of frame (pos 3)) (length_of frame (pos 12)) ++ path_text text

unfoldable pub stretch_text : Frame → List ℕ → List ℕ
stretch_text frame text = path_start (codes "stretch") (codes "orange") (length_of frame (pos 8)) ++ path_text text

-- The outline, what isn't closed, the stretch of the step, and the handles.
unfoldable pub outline_part : Frame → LayersView → List ℕ
outline_part frame l =
    outline_start
    ++ (path_text l.outline
    ++ (open_text frame l.unclosed ++ (stretch_text frame l.stretch ++ (handles_start ++ path_text l.handles))))

unfoldable pub points_part : List ℕ → List ℕ → List ℕ
points_part points controls =
    codes "<g id=\"points\" fill=\"black\">\n"
    ++ (points ++ (codes "</g>\n" ++ (codes "<g id=\"controls\" fill=\"white\" stroke=\"black\">\n" ++ (controls ++ codes "</g>\n"))))

abbrev pub mark_at : FaultMark → List ℕ
mark_at mark = mark_text (codes "mark") mark.point

unfoldable pub marks_part : Frame → List FaultMark → List ℕ
marks_part frame marks = marks_start (codes "marks") (length_of frame (pos 3)) ++ (flat_map mark_at marks ++ codes "</g>\n")

unfoldable pub drawing_start : Exact → List ℕ
drawing_start thin = codes "<g transform=\"scale(1 -1)\" fill=\"none\" stroke-width=\"" ++ (exact_text thin ++ codes "\">\n")

-- What lies behind the outline, the outline, and what faults draw upon it.
unfoldable pub back_text : Frame → FontValue → LayersView → Option Metrics → List Cause → List ℕ
back_text frame font layers metrics causes =
    zones_part frame font ++ (stems_part frame layers.bands ++ (causes_part frame causes ++ lines_part frame metrics))

unfoldable pub front_text : Frame → LayersView → List ℕ
front_text frame layers = outline_part frame layers ++ points_part layers.points layers.controls

unfoldable pub faults_part : Frame → List ℕ → FaultLayersView → List ℕ
faults_part frame arrows faults =
    cause_lines_part frame faults.causes faults.components
    ++ (cause_points_part frame faults.causes arrows ++ marks_part frame faults.marks)

unfoldable pub drawing_text : Frame → FontValue → LayersView → Option Metrics → FaultLayersView → List ℕ
drawing_text frame font layers metrics faults =
    drawing_start (length_of frame (pos 1))
    ++ (back_text frame font layers metrics faults.causes
    ++ (front_text frame layers ++ (faults_part frame layers.arrows faults ++ codes "</g>\n")))

-- ---- numbers and legend, y downwards

-- The numbers of a mark: one, or the first and the last of them.
unfoldable pub one_number : Exact → Exact → ℕ → List ℕ
one_number x y number =
    codes "<text x=\"" ++ (exact_text x ++ (codes "\" y=\"" ++ (exact_text y ++ (codes "\">" ++ (decimal number ++ codes "</text>\n")))))

unfoldable pub two_numbers : Exact → Exact → ℕ → ℕ → List ℕ
two_numbers x y first last =
    codes "<text x=\"" ++ (exact_text x ++ (codes "\" y=\"" ++ (exact_text y
    ++ (codes "\">" ++ (decimal first ++ (codes "-" ++ (decimal last ++ codes "</text>\n")))))))

abbrev pub number_at : Exact → Exact → ℕ → ℕ → List ℕ
number_at x y first last = if first == last then one_number x y first else two_numbers x y first last

unfoldable pub number_text : Frame → FaultMark → List ℕ
number_text frame mark =
    number_at (coordinate_of (kept (mark.point.x +ℤ units_of frame (pos 9))))
    (coordinate_of (opposite (kept (mark.point.y +ℤ units_of frame (pos 9))))) mark.first mark.last

unfoldable pub numbers_text : Frame → List FaultMark → List ℕ
numbers_text frame marks =
    numbers_start (codes "numbers") (length_of frame (pos 16)) ++ (flat_map (number_text frame) marks ++ codes "</g>\n")

unfoldable pub line_start : Exact → Exact → List ℕ
line_start x y = codes "<text x=\"" ++ (exact_text x ++ (codes "\" y=\"" ++ (exact_text y ++ codes "\">")))

unfoldable pub legend_line_text : Frame → ℕ → List ℕ → List ℕ
legend_line_text frame place line =
    line_start (legend_left_of frame) (legend_line_of frame place) ++ (xml_text line ++ codes "</text>\n")

abbrev pub legend_lines : Frame → ℕ → List (List ℕ) → List ℕ
legend_lines frame place [] = []
legend_lines frame place (line ∷ lines) = legend_line_text frame place line ++ legend_lines frame (place + 1) lines

unfoldable pub legend_start : Exact → List ℕ
legend_start letters =
    codes "<g id=\"legend\" font-family=\"monospace\" font-size=\"" ++ (exact_text letters ++ codes "\" xml:space=\"preserve\">\n")

unfoldable pub legend_text : Frame → List (List ℕ) → List ℕ
legend_text frame lines =
    legend_start (length_of frame (pos 16)) ++ (legend_lines frame 0 lines ++ codes "</g>\n")

-- ---- all of it

-- The numbers of marks and of edges, and the legend.
unfoldable pub labels_text : Frame → FaultLayersView → List (List ℕ) → List ℕ
labels_text frame faults lines =
    numbers_text frame faults.marks ++ (edges_part frame faults.causes ++ legend_text frame lines)

unfoldable pub svg_text : Frame → FontValue → List ℕ → LayersView → Option Metrics → FaultLayersView → List (List ℕ) → List ℕ
svg_text frame font title layers metrics faults lines =
    head_text frame title lines
    ++ (drawing_text frame font layers metrics faults ++ (labels_text frame faults lines ++ codes "</svg>\n"))

abbrev pub picture_with : Subject → DrawingView → FaultsView → List ℕ
picture_with s drawing faults =
    svg_text (frame_of (bounds_of drawing faults)) s.font (title_of s) drawing.layers drawing.composition.metrics (fault_layers s faults)
    (legend_of s drawing faults)

-- The picture of a subject, given the faults of its glyph: those that its waivers leave, and all that there are without waivers.
abbrev pub picture_of : Subject → List FaultValue → List FaultValue → List ℕ
picture_of s faults all = picture_with s (drawing_of s) (faults_of s faults all)

-- This text is the picture of a subject.
pub record IsPictureOf (s : Subject) (text : List ℕ) : Type 0 where
  -- The faults of its glyph with its waivers, and without waivers.
  pub faults : List FaultValue
  pub are : AreShownOf s s.waivers faults
  pub all : List FaultValue
  pub are_all : AreShownOf s [] all
  -- It is that text.
  pub is : text ≡ picture_of s faults all
