-- A search for a stem, one step further.
use Rattle.std.proofs.Common.{◌≡◌, ℤ, ◌+◌, if◌then◌else◌, Bool, true, false, Option, None, List, [], ◌∷◌, ◌++◌, append-nil, append_assoc, is_some, length, refl, sym, ap, ◌∙◌}
use Rattle.std.proofs.lemmas.List.Sums.{fold-append}
use Rattle.std.specs.Bool.{then_some}
use Rattle.std.specs.List.{flat_map, fold}
use Rattle.std.specs.Option.{option_or}
use Rattle.t1_char.specs.Steps.{StepView}
use Rattle.t1_drawing.specs.declared.direction.Direction.{Direction}
use Rattle.t1_drawing.specs.declared.font_box.FontBox.{FontBox}
use Rattle.t1_drawing.specs.declared.segments.TracedSegment.{TracedSegment}
use Rattle.t1_drawing.specs.declared.touching.UntouchedStem.{UntouchedStem}
use Rattle.t1_drawing.specs.Drawings.{traced}
use Rattle.t1_drawing.specs.Segments.{start_after}
use Rattle.t1_drawing.specs.Strokes.{segments_of, strokes_from}
use Rattle.t1_drawing.proofs.Drawing.{starts}
use Rattle.t1_outline.specs.declared.segment.Segment.{Segment}
use Rattle.t1_outline.specs.Laws.Points.{last_end}
use Rattle.t1_outline.specs.Outlines.{drawn}
use Rattle.t1_reasons.specs.Carried.{first_on}
use Rattle.t1_reasons.specs.StemSearches.{both_ends, ends_at, ends_of, ends_of_traced, ends_on, later_ends, nearer, nearer_end, nearest_end, set_first, sets, stroke_end}
use Rattle.t1_reasons.proofs.Backgrounds.{carried_on}

-- Where a segment begins after others.
begins_after : (front before : List Segment) → start_after (front ++ before) ≡ last_end (start_after front) before
begins_after front [] = ap start_after (append-nil front)
begins_after front (s ∷ ss) =
    ap start_after (sym (append_assoc front (s ∷ []) ss)) ∙ begins_after (front ++ s ∷ []) ss ∙ ap (λ p. last_end p ss) (starts front s)

traced_ends : (direction : Direction) (box : Option FontBox) (before here : List Segment)
    → flat_map (ends_of_traced direction) (traced box before here) ≡ flat_map (ends_of direction) (strokes_from (start_after before) here)
traced_ends direction box before [] = refl
traced_ends direction box before (s ∷ ss) =
    ap (λ more. both_ends direction (start_after before) (stroke_end s) ++ more)
    (traced_ends direction box (before ++ s ∷ []) ss ∙ ap (λ p. flat_map (ends_of direction) (strokes_from p ss)) (starts before s))

-- The ends of what is traced are those of what the step draws.
pub ends_traced : (direction : Direction) (box : Option FontBox) (before : List StepView) (t : StepView)
    → flat_map (ends_of_traced direction) (traced box (segments_of before) (drawn before t)) ≡ ends_at direction before t
ends_traced direction box before t =
    traced_ends direction box (segments_of before) (drawn before t)
    ∙ ap (λ p. flat_map (ends_of direction) (strokes_from p (drawn before t))) (begins_after [] (segments_of before))

pub each_end : (stem : UntouchedStem) (best : Option ℤ) (segments : List TracedSegment)
    → fold (nearer_end stem) best segments ≡ fold (nearer stem) best (flat_map (ends_of_traced stem.direction) segments)
each_end stem best [] = refl
each_end stem best (s ∷ ss) =
    each_end stem (nearer_end stem best s) ss
    ∙ sym (fold-append (nearer stem) best (ends_of_traced stem.direction s) (flat_map (ends_of_traced stem.direction) ss))

pub set_on : (stem : UntouchedStem) (before : List StepView) (t : StepView)
    → set_first stem (before ++ t ∷ []) ≡ option_or (set_first stem before) (then_some (sets stem before t) (length before + 1))
set_on stem before t = carried_on (first_on (sets stem)) None before t

with_more : (stem : UntouchedStem) (b : Bool) (ends more : List ℤ)
    → fold (nearer stem) None (if b then ends ++ more else ends) ≡ (if b then fold (nearer stem) (fold (nearer stem) None ends) more else fold (nearer stem) None ends)
with_more stem true ends more = fold-append (nearer stem) None ends more
with_more stem false ends more = refl

pub nearest_on : (stem : UntouchedStem) (before : List StepView) (t : StepView)
    → nearest_end stem (before ++ t ∷ [])
    ≡ (if is_some (set_first stem before) then fold (nearer stem) (nearest_end stem before) (ends_at stem.direction before t) else nearest_end stem before)
nearest_on stem before t =
    ap (λ ends. fold (nearer stem) None ends) (carried_on (ends_on stem) [] before t)
    ∙ with_more stem (is_some (set_first stem before)) (later_ends stem before) (ends_at stem.direction before t)
