-- The arrows that show which way subpaths run, as a text of SVG 1.1: `marker`.
use Rattle.std.specs.Prelude.{ℕ, if◌then◌else◌, Bool, Option, None, Some, List, [], ◌∷◌, ◌++◌, codes}
use Rattle.t1_outline.specs.declared.segment.Segment.{Segment}
use Rattle.t1_picture.specs.declared.subpath.Subpath.{Subpath}
use Rattle.t1_picture.specs.Subpaths.{gone_on, leads_to}
use Rattle.t1_reason_texts.specs.Decimals.{point_text}
use Rattle.t1_rules.specs.declared.step_rules.flex.Point.{Point}

-- An arrow at a point, toward another one: the line between them is not drawn, but the marker at its beginning lies as it does.
abbrev pub arrow_at : Point → Option Point → List ℕ
arrow_at first None = []
arrow_at first (Some p) = codes "<path d=\"M" ++ (point_text first ++ (codes "L" ++ (point_text p ++ codes "\"/>\n")))

-- That of a subpath: at its beginning, toward where its first line or curve of some length leads. The others have none.
abbrev pub arrow_text : Subpath → Segment → List ℕ
arrow_text before segment = if before.has_length then [] else arrow_at before.first (leads_to before.first segment)

-- A subpath after segments, and the arrows of these.
abbrev pub drawn_on : Subpath → List Segment → Subpath
drawn_on before [] = before
drawn_on before (segment ∷ segments) = drawn_on (gone_on before segment) segments

abbrev pub arrows_from : Subpath → List Segment → List ℕ
arrows_from before [] = []
arrows_from before (segment ∷ segments) = arrow_text before segment ++ arrows_from (gone_on before segment) segments

-- The marker, which is counted in widths of the lines of the group that it is in, and the group of the arrows.
unfoldable pub arrows_start : List ℕ
arrows_start =
    codes "<marker id=\"arrow\" orient=\"auto\" overflow=\"visible\"><path fill=\"red\" stroke-width=\"1\" d=\"M0 0H14M14 -5L24 0L14 5Z\"/></marker>\n<g id=\"arrows\" stroke=\"none\" marker-start=\"url(#arrow)\">\n"

abbrev pub arrows_if : Bool → List ℕ → List ℕ
arrows_if are_meant arrows = if are_meant then arrows_start ++ (arrows ++ codes "</g>\n") else []
