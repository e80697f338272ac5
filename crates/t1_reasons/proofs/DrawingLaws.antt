-- Reasons of the rules on the drawing are against their rules.
use Rattle.std.proofs.Common.{◌≡◌, ◌&&◌, ◌||◌, int_lt, if◌then◌else◌, pos, ◌*ℤ◌, ℤ, Bool, true, false, Option, None, Some, is_some, List, [], ◌∷◌, ◌++◌, append-nil, map, option_map, refl, sym, ap, ◌∙◌}
use Rattle.std.proofs.Math.Bool.{or_assoc}
use Rattle.std.proofs.lemmas.List.Folds.{find-append}
use Rattle.std.specs.List.{find, list_all}
use Rattle.t1_char.specs.declared.command.Command.TheVariants.{Endchar}
use Rattle.t1_char.specs.declared.token.CharToken.{CharToken}
use Rattle.t1_char.specs.declared.token.CharToken.TheVariants.{Command, End}
use Rattle.t1_char.specs.Editions.{has_latest_rules}
use Rattle.t1_char.specs.Steps.{StepView}
use Rattle.t1_drawing.specs.declared.direction.Direction.{Direction}
use Rattle.t1_drawing.specs.declared.direction.Direction.TheVariants.{Across, Upright}
use Rattle.t1_drawing.specs.declared.font_box.FontBox.{FontBox}
use Rattle.t1_drawing.specs.declared.segments.TracedSegment.{TracedSegment}
use Rattle.t1_drawing.specs.Areas.{area_of, drawn_area, is_drawn_close, runs_clockwise}
use Rattle.t1_drawing.specs.Curves.{at_half, at_quarter, goes_beyond, is_above, is_below, is_beyond, is_flat, lacks_extreme, lacks_extreme_from}
use Rattle.t1_drawing.specs.DrawingRules.{drawing_rules, ends_glyph}
use Rattle.t1_drawing.specs.Drawings.{faults_at, traced, traced_at}
use Rattle.t1_drawing.specs.FontBoxes.{ends_outside, is_first_outside}
use Rattle.t1_drawing.specs.Lines.{goes_straight_on, has_no_length, turns_back}
use Rattle.t1_drawing.specs.Segments.{Test, one_in, start_after}
use Rattle.t1_drawing.specs.StemEdges.{sets_negative_width}
use Rattle.t1_drawing.specs.Strokes.{segments_of}
use Rattle.t1_drawing.specs.Touching.{coordinate}
use Rattle.t1_drawing.proofs.NearLaws.{steps_add_what_they_draw}
use Rattle.t1_drawing.proofs.Numbers.{IsUndrawn, undrawn_is}
use Rattle.t1_outline.specs.declared.segment.Segment.{Segment}
use Rattle.t1_outline.specs.declared.segment.Segment.TheVariants.{Curve, Line}
use Rattle.t1_outline.specs.Laws.Points.{end_of}
use Rattle.t1_outline.specs.Outlines.{drawn}
use Rattle.t1_rules.specs.declared.rule.Rule.{Rule}
use Rattle.t1_rules.specs.declared.rule.Rule.TheVariants.{P04, P05, P06, P07, P08, P09, P10, H09, H10}
use Rattle.t1_rules.specs.declared.step_rules.flex.Point.{Point}
use Rattle.t1_rules.specs.Book.{number_of}
use Rattle.t1_rules.specs.StepRules.{breaks}
use Rattle.t1_rules.specs.StepRules.Stems.{is_stem, stems_of}
use Rattle.t1_rules.proofs.Lemmas.Book.{both}
use Rattle.t1_rules.proofs.Lemmas.StepRules.{row_decides}
use Rattle.t1_reasons.specs.declared.reason.Reason.{Reason}
use Rattle.t1_reasons.specs.declared.reason.Reason.TheVariants.{Stem as StemAlone}
use Rattle.t1_reasons.specs.declared.reason.SubpathTurns.{SubpathTurns}
use Rattle.t1_reasons.specs.declared.step_reasons.PairFlaw.TheVariants.{SharedEdge}
use Rattle.t1_reasons.specs.declared.step_reasons.StemFlaw.TheVariants.{Negative}
use Rattle.t1_reasons.specs.DrawingLaws.{DrawingReasonsAreAgainstTheirRules, is_against_drawing, is_below_zero, names_outside}
use Rattle.t1_reasons.specs.DrawingReasons.{are_beyond, area_of_drawing, beyond_at, beyond_of, beyonds, breaks_rule, fault_of, or_nothing, outside_of, told_of_segment, told_of_segments, told_on_drawing}
use Rattle.t1_reasons.specs.StepReasons.{is_flawed, is_flawed_pair, single_stems_at, stems_at}
use Rattle.t1_reasons.specs.SubpathTurns.{turns_of}
use Rattle.t1_reasons.proofs.LawProofs.{flawed_pairs, one_stem, one_such, such_in_both, where_so}

-- ---- the first such reason

kept : (p : Reason → Bool) (xs : List Reason) → is_some (find p xs) ≡ true → p (or_nothing (find p xs)) ≡ true
kept p [] is = let no : false ≡ true = is in cc
kept p (x ∷ xs) is = go (p x) refl is (kept p xs)
  where
    go : (b : Bool) → p x ≡ b → is_some (if b then Some x else find p xs) ≡ true → (is_some (find p xs) ≡ true → p (or_nothing (find p xs)) ≡ true)
        → p (or_nothing (if b then Some x else find p xs)) ≡ true
    go true e is later = e
    go false e is later = later is

-- ---- segments

-- A segment that breaks a rule, and what is drawn before it.
record IsFound (box : Option FontBox) (rule : Rule) (test : Test) (before here : List Segment) : Type 0 where
  earlier : List Segment
  segment : Segment
  there : find (breaks_rule rule) (traced box before here) ≡ Some (traced_at box earlier segment)
  broken : test earlier segment ≡ true

found : (box : Option FontBox) (rule : Rule) (test : Test) → ((before : List Segment) (s : Segment) → fault_of rule (faults_at box before s) ≡ test before s)
    → (before here : List Segment) → one_in test before here ≡ true → IsFound box rule test before here
found box rule test same before [] is = let no : false ≡ true = is in cc
found box rule test same before (s ∷ ss) is = go (test before s) refl (found box rule test same (before ++ s ∷ []) ss) is
  where
    choose : Bool → Option TracedSegment
    choose b = if b then Some (traced_at box before s) else find (breaks_rule rule) (traced box (before ++ s ∷ []) ss)

    go : (b : Bool) → test before s ≡ b → (one_in test (before ++ s ∷ []) ss ≡ true → IsFound box rule test (before ++ s ∷ []) ss)
        → (b || one_in test (before ++ s ∷ []) ss) ≡ true → IsFound box rule test before (s ∷ ss)
    go true e later is = record { earlier = before; segment = s; there = ap choose (same before s ∙ e); broken = e }
    go false e later is =
        let rest = later is in
        record { earlier = rest.earlier; segment = rest.segment; there = ap choose (same before s ∙ e) ∙ rest.there; broken = rest.broken }

of_segments : (box : Option FontBox) (rule : Rule) (test : Test) (p : Reason → Bool)
    → ((before : List Segment) (s : Segment) → fault_of rule (faults_at box before s) ≡ test before s)
    → ((before : List Segment) (s : Segment) → test before s ≡ true → p (told_of_segment box rule (traced_at box before s)) ≡ true)
    → (before here : List Segment) → one_in test before here ≡ true → p (told_of_segments box rule (traced box before here)) ≡ true
of_segments box rule test p same holds before here is =
    let f = found box rule test same before here is in
    ap (λ o. p (or_nothing (option_map (told_of_segment box rule) o))) f.there ∙ holds f.earlier f.segment f.broken

outside_holds : (box : Option FontBox) (s : Segment) → ends_outside box s ≡ true → names_outside (outside_of box (end_of s)) ≡ true
outside_holds None s is = let no : false ≡ true = is in cc
outside_holds (Some b) (Line end) is = is
outside_holds (Some b) (Curve one two end) is = is
outside_holds (Some b) _ is = let no : false ≡ true = is in cc

other_way : (start end place : ℤ) → is_beyond end start place ≡ is_beyond start end place
unfolding is_beyond
other_way start end place =
    let low = pos 64 *ℤ start in
    let high = pos 64 *ℤ end in
    swapped (is_above high place) (is_above low place) (is_below high place) (is_below low place)
  where
    swapped : (a b c d : Bool) → ((a && b) || (c && d)) ≡ ((b && a) || (d && c))
    swapped true true c d = refl
    swapped true false true true = refl
    swapped true false true false = refl
    swapped true false false true = refl
    swapped true false false false = refl
    swapped false true true true = refl
    swapped false true true false = refl
    swapped false true false true = refl
    swapped false true false false = refl
    swapped false false true true = refl
    swapped false false true false = refl
    swapped false false false true = refl
    swapped false false false false = refl

three : (p : Reason → Bool) (x y z : Reason) → is_some (find p (x ∷ y ∷ z ∷ [])) ≡ ((p x || p y) || p z)
three p x y z =
    such_in_both p (x ∷ []) (y ∷ z ∷ []) ∙ rw (one_such p x, such_in_both p (y ∷ []) (z ∷ []), one_such p y, one_such p z) (sym (or_assoc (p x) (p y) (p z)))

beyond_along : (d : Direction) (start one two end : Point)
    → is_some (find are_beyond (beyonds d start one two end)) ≡ goes_beyond (coordinate d start) (coordinate d one) (coordinate d two) (coordinate d end)
beyond_along d start one two end =
    let s = coordinate d start in
    let o = coordinate d one in
    let t = coordinate d two in
    let e = coordinate d end in
    three are_beyond (beyond_at d 1 s e (at_quarter s o t e)) (beyond_at d 2 s e (at_half s o t e)) (beyond_at d 3 s e (at_quarter e t o s))
    ∙ rw (other_way s e (at_quarter e t o s)) refl

beyond_holds : (start : Option Point) (s : Segment) → lacks_extreme_from start s ≡ true → are_beyond (beyond_of start s) ≡ true
beyond_holds (Some start) (Curve one two end) is =
    let xs = beyonds Upright start one two end in
    let ys = beyonds Across start one two end in
    let some : is_some (find are_beyond (xs ++ ys)) ≡ true =
    such_in_both are_beyond xs ys ∙ rw (beyond_along Upright start one two end, beyond_along Across start one two end) is in
    ap (λ o. are_beyond (or_nothing o)) (sym (find-append are_beyond xs ys)) ∙ kept are_beyond (xs ++ ys) some
beyond_holds None s is = let no : false ≡ true = is in cc
beyond_holds (Some start) _ is = let no : false ≡ true = is in cc

-- ---- the end of a glyph

ends_undrawn : (t : StepView) → ends_glyph t ≡ true → IsUndrawn t
ends_undrawn t is = go t.token refl
  where
    go : (token : CharToken) → t.token ≡ token → IsUndrawn t
    go (Command Endchar) e = record { move = rw e refl; line = rw e refl; closing = rw e refl; start = rw e refl; point = rw e refl; end = rw e refl }
    go End e = record { move = rw e refl; line = rw e refl; closing = rw e refl; start = rw e refl; point = rw e refl; end = rw e refl }
    go _ e = let no : false ≡ true = rw e at is in cc

clockwise : (segments : List Segment) (turns : SubpathTurns) → runs_clockwise segments ≡ true → is_below_zero (area_of_drawing (drawn_area segments) turns) ≡ true
clockwise segments turns is =
    let parts = both (list_all is_drawn_close segments) (int_lt (area_of segments) (pos 0)) is in
    ap (λ b. is_below_zero (area_of_drawing (if b then Some (area_of segments) else None) turns)) parts.0 ∙ parts.1

negative : (step : StepView) → sets_negative_width step ≡ is_some (find (is_flawed Negative) (single_stems_at step))
negative step = where_so (is_stem step.token) (is_flawed Negative) (map (λ s. StemAlone s) (stems_of step)) (one_stem (is_flawed Negative) (stems_of step))

-- ---- rule by rule

module _ (box : Option FontBox) (before : List StepView) (step : StepView) where
  abbrev is_broken : Rule → Bool
  is_broken rule = breaks (drawing_rules box) (number_of rule) before step

  drawn_against : (rule : Rule) (test : Test) → ((before : List Segment) (s : Segment) → fault_of rule (faults_at box before s) ≡ test before s)
      → ((before : List Segment) (s : Segment) → test before s ≡ true → is_against_drawing rule (told_of_segment box rule (traced_at box before s)) ≡ true)
      → one_in test (segments_of before) (drawn before step) ≡ true
      → is_against_drawing rule (told_of_segments box rule (traced box (segments_of before) (drawn before step))) ≡ true
  drawn_against rule test same holds broken = of_segments box rule test (is_against_drawing rule) same holds (segments_of before) (drawn before step) broken

  against : (rule : Rule) → is_broken rule ≡ true → is_against_drawing rule (told_on_drawing box rule before step) ≡ true
  unfolding drawing_rules
  against P04 is =
      drawn_against P04 (is_first_outside box) (λ b s. refl) (λ b s broken. outside_holds box s (both _ _ broken).0)
      (sym (row_decides (number_of P04) (drawing_rules box) 0 _ refl refl refl refl before step) ∙ is)
  against P05 is =
      let parts = both (ends_glyph step) (runs_clockwise (segments_of before))
      (sym (row_decides (number_of P05) (drawing_rules box) 1 _ refl refl refl refl before step) ∙ is) in
      let same : segments_of (before ++ step ∷ []) ≡ segments_of before =
      steps_add_what_they_draw before step ∙ ap (λ ss. segments_of before ++ ss) (undrawn_is before step (ends_undrawn step parts.0)) ∙ append-nil (segments_of before) in
      ap (λ ss. is_below_zero (area_of_drawing (drawn_area ss) (turns_of (before ++ step ∷ [])))) same
      ∙ clockwise (segments_of before) (turns_of (before ++ step ∷ [])) parts.1
  against P06 is =
      drawn_against P06 has_no_length (λ b s. refl) (λ b s broken. broken)
      (sym (row_decides (number_of P06) (drawing_rules box) 2 _ refl refl refl refl before step) ∙ is)
  against P07 is =
      drawn_against P07 turns_back (λ b s. refl) (λ b s broken. broken)
      (sym (row_decides (number_of P07) (drawing_rules box) 3 _ refl refl refl refl before step) ∙ is)
  against P08 is =
      drawn_against P08 goes_straight_on (λ b s. refl) (λ b s broken. broken)
      (sym (row_decides (number_of P08) (drawing_rules box) 4 _ refl refl refl refl before step) ∙ is)
  against P09 is =
      drawn_against P09 is_flat (λ b s. refl) (λ b s broken. broken)
      (sym (row_decides (number_of P09) (drawing_rules box) 5 _ refl refl refl refl before step) ∙ is)
  against P10 is =
      drawn_against P10 lacks_extreme (λ b s. refl) (λ b s broken. beyond_holds (start_after b) s broken)
      (sym (row_decides (number_of P10) (drawing_rules box) 6 _ refl refl refl refl before step) ∙ is)
  against H09 is =
      kept (is_flawed_pair SharedEdge) (stems_at before step)
      (sym (flawed_pairs SharedEdge before step) ∙ sym (row_decides (number_of H09) (drawing_rules box) 9 _ refl refl refl refl before step) ∙ is)
  against H10 is =
      kept (is_flawed Negative) (single_stems_at step)
      (sym (negative step) ∙ sym (row_decides (number_of H10) (drawing_rules box) 10 _ refl refl refl refl before step) ∙ is)
  against _ is = refl

pub drawing_reasons_are_against : DrawingReasonsAreAgainstTheirRules
drawing_reasons_are_against edition box rule before step reason is =
    go (has_latest_rules edition && breaks (drawing_rules box) (number_of rule) before step) refl is
  where
    go : (b : Bool) → (has_latest_rules edition && breaks (drawing_rules box) (number_of rule) before step) ≡ b
        → (if b then Some (told_on_drawing box rule before step) else None) ≡ Some reason → is_against_drawing rule reason ≡ true
    go true e here =
        let same : told_on_drawing box rule before step ≡ reason = cc in
        ap (is_against_drawing rule) (sym same) ∙ against box before step rule (both _ _ e).1
    go false e here = let no : None ≡ Some reason = here in cc
