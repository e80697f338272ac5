-- What is drawn, layer by layer. SVG 1.1: M, L, C and Z of a path, and `use`.
use Rattle.std.specs.Prelude.{ℕ, Bool, List, [], ◌∷◌, ◌++◌, codes, if◌then◌else◌, string_bytes}
use Rattle.t1_outline.specs.declared.segment.Segment.{Segment}
use Rattle.t1_outline.specs.declared.segment.Segment.TheVariants.{Move, Line, Curve, Close}
use Rattle.t1_picture.specs.declared.bands.Band.{Band}
use Rattle.t1_picture.specs.declared.bounds.Bounds.{Bounds}
use Rattle.t1_reason_texts.specs.declared.decimals.Exact.{Exact}
use Rattle.t1_picture.specs.declared.layers.Layers.{Layers}
use Rattle.t1_picture.specs.declared.subpath.Subpath.{Subpath}
use Rattle.t1_picture.specs.Arrows.{arrow_text}
use Rattle.t1_picture.specs.Bounds.{origin_alone, with_point}
use Rattle.t1_reason_texts.specs.Decimals.{coordinate_of, exact_text, point_text}
use Rattle.t1_picture.specs.Subpaths.{gone_on, no_subpath, placed}
use Rattle.t1_rules.specs.declared.step_rules.flex.Point.{Point}

-- A segment as data of a path.
abbrev pub segment_text : Segment → List ℕ
segment_text (Move p) = codes "M" ++ (point_text p ++ codes "\n")
segment_text (Line p) = codes "L" ++ (point_text p ++ codes "\n")
segment_text (Curve a b p) =
    codes "C" ++ (point_text a ++ (codes " " ++ (point_text b ++ (codes " " ++ (point_text p ++ codes "\n")))))
segment_text Close = codes "Z\n"

-- A straight stretch.
abbrev pub stretch_text : Point → Point → List ℕ
stretch_text from to = codes "M" ++ (point_text from ++ (codes "L" ++ (point_text to ++ codes "\n")))

-- A mark at a point, by the name of its form.
unfoldable pub use_text : List ℕ → Exact → Exact → List ℕ
use_text form x y =
    codes "<use xlink:href=\"#" ++ (form ++ (codes "\" x=\"" ++ (exact_text x
    ++ (codes "\" y=\"" ++ (exact_text y ++ codes "\"/>\n")))))

abbrev pub mark_text : List ℕ → Point → List ℕ
mark_text form p = use_text form (coordinate_of p.x) (coordinate_of p.y)

-- The point of a segment, its control points, and the lines that lead to these from its ends.
abbrev pub points_text : Segment → List ℕ
points_text (Move p) = mark_text (codes "on") p
points_text (Line p) = mark_text (codes "on") p
points_text (Curve a b p) = mark_text (codes "on") p
points_text Close = []

abbrev pub controls_text : Segment → List ℕ
controls_text (Curve a b p) = mark_text (codes "off") a ++ mark_text (codes "off") b
controls_text _ = []

abbrev pub handles_text : Subpath → Segment → List ℕ
handles_text before (Curve a b p) = stretch_text before.end a ++ stretch_text b p
handles_text before _ = []

-- A segment by itself, as the stretch of a step is drawn: the line or the curve, or the line by which the subpath is closed.
abbrev pub thick_text : Subpath → Segment → List ℕ
thick_text before (Move p) = []
thick_text before (Line p) = stretch_text before.end p
thick_text before (Curve a b p) =
    codes "M" ++ (point_text before.end ++ (codes "C" ++ (point_text a ++ (codes " " ++ (point_text b
    ++ (codes " " ++ (point_text p ++ codes "\n")))))))
thick_text before Close = stretch_text before.end before.first

abbrev pub stretch_of : Bool → Subpath → Segment → List ℕ
stretch_of thick before segment = if thick then thick_text before segment else []

-- How far it reaches.
abbrev pub reached : Bounds → Segment → Bounds
reached bounds (Move p) = with_point bounds p
reached bounds (Line p) = with_point bounds p
reached bounds (Curve a b p) = with_point (with_point (with_point bounds a) b) p
reached bounds Close = bounds

-- The layers of a drawing, as texts.
pub record LayersView : Type 0 where
  -- How far its points reach.
  pub bounds : Bounds
  -- The subpath that is being drawn.
  pub subpath : Subpath
  -- The outline, the arrows of its subpaths, the stretches that P02 speaks of, that of the step, the handles, the points, the control points.
  pub outline : List ℕ
  pub arrows : List ℕ
  pub unclosed : List ℕ
  pub stretch : List ℕ
  pub handles : List ℕ
  pub points : List ℕ
  pub controls : List ℕ
  -- The stems that are in force.
  pub bands : List Band

abbrev pub layers_view : Layers → LayersView
layers_view l =
    record {
      bounds = l.bounds;
      subpath = l.subpath;
      outline = string_bytes l.outline;
      arrows = string_bytes l.arrows;
      unclosed = string_bytes l.unclosed;
      stretch = string_bytes l.stretch;
      handles = string_bytes l.handles;
      points = string_bytes l.points;
      controls = string_bytes l.controls;
      bands = l.bands.items;
    }

-- Nothing is drawn.
abbrev pub no_layers : LayersView
no_layers =
    record {
      bounds = origin_alone;
      subpath = no_subpath;
      outline = [];
      arrows = [];
      unclosed = [];
      stretch = [];
      handles = [];
      points = [];
      controls = [];
      bands = [];
    }

-- A part begins: no subpath is there.
abbrev pub begun : LayersView → LayersView
begun l = record l { subpath = no_subpath }

-- With a point more, and with a control point more.
abbrev pub with_mark : LayersView → Point → LayersView
with_mark l p = record l { bounds = with_point l.bounds p; points = l.points ++ mark_text (codes "on") p }

abbrev pub with_control : LayersView → Point → LayersView
with_control l p = record l { bounds = with_point l.bounds p; controls = l.controls ++ mark_text (codes "off") p }

-- With the points of a segment more, and the handles of a curve.
abbrev pub with_points : LayersView → Segment → LayersView
with_points l segment =
    record l {
      bounds = reached l.bounds segment;
      handles = l.handles ++ handles_text l.subpath segment;
      points = l.points ++ points_text segment;
      controls = l.controls ++ controls_text segment;
    }

-- With a segment more, by itself too where it is thick.
abbrev pub with_segment : Bool → LayersView → Segment → LayersView
with_segment thick l segment =
    record {
      bounds = reached l.bounds segment;
      subpath = gone_on l.subpath segment;
      outline = l.outline ++ segment_text segment;
      arrows = l.arrows ++ arrow_text l.subpath segment;
      unclosed = l.unclosed;
      stretch = l.stretch ++ stretch_of thick l.subpath segment;
      handles = l.handles ++ handles_text l.subpath segment;
      points = l.points ++ points_text segment;
      controls = l.controls ++ controls_text segment;
      bands = l.bands;
    }

-- With segments of a glyph whose origin is at a point.
abbrev pub with_segments : Point → Bool → LayersView → List Segment → LayersView
with_segments start thick l [] = l
with_segments start thick l (segment ∷ segments) =
    with_segments start thick (with_segment thick l (placed start segment)) segments

-- With the stretch that would close the subpath.
abbrev pub with_gap : LayersView → LayersView
with_gap l = record l { unclosed = l.unclosed ++ stretch_text l.subpath.end l.subpath.first }

-- With bands more.
abbrev pub with_bands : LayersView → List Band → LayersView
with_bands l bands = record l { bands = l.bands ++ bands }
