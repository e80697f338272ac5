-- The subpath that is being drawn, and where the segments of a part are.
use Rattle.std.specs.Prelude.{◌+ℤ◌, ◌&&◌, ◌||◌, if◌then◌else◌, Bool, true, false, Option, None, Some, is_some}
use Rattle.std.specs.Ordering.{int_eq}
use Rattle.t1_outline.specs.declared.segment.Segment.{Segment}
use Rattle.t1_outline.specs.declared.segment.Segment.TheVariants.{Move, Line, Curve, Close}
use Rattle.t1_picture.specs.declared.subpath.Subpath.{Subpath}
use Rattle.t1_picture.specs.Bounds.{kept}
use Rattle.t1_rules.specs.declared.step_rules.flex.Point.{Point}
use Rattle.t1_rules.specs.StepRules.Flex.{at, origin}

-- A point of a glyph whose origin is at another one.
abbrev pub behind : Point → Point → Point
behind start point = at (kept (start.x +ℤ point.x)) (kept (start.y +ℤ point.y))

abbrev pub placed : Point → Segment → Segment
placed start (Move p) = Move (behind start p)
placed start (Line p) = Line (behind start p)
placed start (Curve a b p) = Curve (behind start a) (behind start b) (behind start p)
placed start Close = Close

abbrev pub same_point : Point → Point → Bool
same_point p q = int_eq p.x q.x && int_eq p.y q.y

-- A point, if it isn't where a subpath begins; else another one, if there is one.
abbrev pub point_or : Point → Point → Option Point → Option Point
point_or first p other = if same_point first p then other else Some p

-- Where a line or a curve leads: to the first of its points that isn't where its subpath begins. It has no length, if there is none.
abbrev pub leads_to : Point → Segment → Option Point
leads_to first (Line p) = point_or first p None
leads_to first (Curve a b p) = point_or first a (point_or first b (point_or first p None))
leads_to first _ = None

-- One is begun at a point.
abbrev pub begun_at : Point → Subpath
begun_at p = record { first = p; end = p; is_drawn = false; has_length = false }

-- None is begun.
abbrev pub no_subpath : Subpath
no_subpath = record { first = origin; end = origin; is_drawn = false; has_length = false }

-- Whether a line or a curve of some length was drawn.
abbrev pub has_length_with : Subpath → Segment → Bool
has_length_with before segment = before.has_length || is_some (leads_to before.first segment)

abbrev pub drawn_to : Subpath → Segment → Point → Subpath
drawn_to before segment p = record { first = before.first; end = p; is_drawn = true; has_length = has_length_with before segment }

-- Where a subpath began, how far it was drawn, and whether a line or a curve of it was, or one of some length, and it wasn't closed.
abbrev pub gone_on : Subpath → Segment → Subpath
gone_on before (Move p) = begun_at p
gone_on before (Line p) = drawn_to before (Line p) p
gone_on before (Curve a b p) = drawn_to before (Curve a b p) p
gone_on before Close = begun_at before.first
