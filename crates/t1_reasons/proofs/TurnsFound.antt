-- A search for the subpaths that run clockwise, one step further.
use Rattle.std.proofs.Common.{◌≡◌, ℕ, ℤ, pos, ◌+◌, ◌≤◌, ◌==◌, if◌then◌else◌, Bool, true, false, Option, None, Some, List, [], ◌∷◌, ◌++◌, append-nil, length, length-append, refl, sym, ap, ◌∙◌, arith}
use Rattle.std.specs.List.{list_any}
use Rattle.t1_char.specs.Steps.{StepView}
use Rattle.t1_drawing.specs.declared.font_box.FontBox.{FontBox}
use Rattle.t1_drawing.specs.Areas.{drawn_area, line_area}
use Rattle.t1_drawing.specs.Drawings.{traced}
use Rattle.t1_drawing.specs.Points.{cross}
use Rattle.t1_drawing.specs.Strokes.{segments_of}
use Rattle.t1_outline.specs.declared.segment.Segment.{Segment}
use Rattle.t1_reasons.specs.declared.reason.SubpathTurns.{SubpathTurns}
use Rattle.t1_reasons.specs.declared.subpath_turns.Beginning.{Beginning}
use Rattle.t1_reasons.specs.declared.subpath_turns.TurnSearch.{TurnSearch}
use Rattle.t1_reasons.specs.Private.Searching.{TurnsSearched, begun, with_last, with_one, with_subpath}
use Rattle.t1_reasons.specs.SubpathTurns.{area_after, beginning, begins_subpath, begun_on, clockwise_among, first_or_zero, lessens, moves, subpaths_of, turns_among}
use Rattle.t1_reasons.proofs.Backgrounds.{carried_on}

pub moves_traced : (box : Option FontBox) (before here : List Segment) → list_any (λ s. moves s.segment) (traced box before here) ≡ list_any moves here
moves_traced box before [] = refl
moves_traced box before (s ∷ ss) = rw (moves_traced box (before ++ s ∷ []) ss) refl

-- ---- a subpath more

ends_there : (whole : Option ℤ) (subpaths : List Beginning) (b : Beginning) → area_after whole (subpaths ++ b ∷ []) ≡ area_after b.area subpaths
ends_there whole [] b = refl
ends_there whole (c ∷ cs) b = refl

one_more : (l : Bool) (step : ℕ) (steps more : List ℕ) → (if l then step ∷ (steps ++ more) else steps ++ more) ≡ (if l then step ∷ steps else steps) ++ more
one_more true step steps more = refl
one_more false step steps more = refl

clockwise_on : (whole : Option ℤ) (subpaths : List Beginning) (b : Beginning)
    → clockwise_among whole (subpaths ++ b ∷ []) ≡ clockwise_among b.area subpaths ++ (if lessens b.area whole then b.step ∷ [] else [])
clockwise_on whole [] b = refl
clockwise_on whole (c ∷ cs) b =
    rw (ends_there whole cs b, clockwise_on whole cs b)
    (one_more (lessens c.area (area_after b.area cs)) c.step (clockwise_among b.area cs) (if lessens b.area whole then b.step ∷ [] else []))

abbrev turns_in : ℕ → List ℕ → SubpathTurns
turns_in subpaths clockwise = record { subpaths = subpaths; clockwise = length clockwise; first = first_or_zero clockwise }

by_test : (l : Bool) (n : ℕ) (clockwise : List ℕ) (step : ℕ)
    → turns_in n (clockwise ++ (if l then step ∷ [] else [])) ≡ (if l then with_one (turns_in n clockwise) step else turns_in n clockwise)
by_test true n [] step = refl
by_test true n (c ∷ cs) step =
    let some : (length (c ∷ cs) == 0) ≡ false = grind arith in
    rw (length-append (c ∷ cs) (step ∷ []), some) refl
by_test false n clockwise step = ap (turns_in n) (append-nil clockwise)

turns_on : (whole : Option ℤ) (subpaths : List Beginning) (b : Beginning)
    → with_last (with_subpath (turns_among b.area subpaths)) (Some b) whole ≡ turns_among whole (subpaths ++ b ∷ [])
turns_on whole subpaths b =
    sym (rw (clockwise_on whole subpaths b, length-append subpaths (b ∷ []))
    (by_test (lessens b.area whole) (length subpaths + 1) (clockwise_among b.area subpaths) b.step))

-- ---- a step more

subpaths_on : (before : List StepView) (t : StepView) (begins : Bool) → begins ≡ begins_subpath before t
    → subpaths_of (before ++ t ∷ []) ≡ (if begins then subpaths_of before ++ beginning before ∷ [] else subpaths_of before)
subpaths_on before t begins is =
    carried_on begun_on [] before t ∙ ap (λ b. if b then subpaths_of before ++ beginning before ∷ [] else subpaths_of before) (sym is)

pub turns_stay : (search : TurnSearch) (before : List StepView) (t : StepView) (area : Option ℤ) → TurnsSearched search before
    → begins_subpath before t ≡ false → area ≡ drawn_area (segments_of (before ++ t ∷ [])) → TurnsSearched (record search { area = area }) (before ++ t ∷ [])
turns_stay search before t area st not is =
    let more : length (before ++ t ∷ []) ≡ length before + 1 = length-append before (t ∷ []) in
    record {
      area = is;
      turns = λ whole. st.turns whole ∙ ap (turns_among whole) (sym (subpaths_on before t false (sym not)));
      few = omega (arith, more, st.few);
      fewer = omega (arith, more, st.fewer);
    }

last_few : (turns : SubpathTurns) (last : Option Beginning) (area : Option ℤ) (n : ℕ) → turns.clockwise ≤ n → (with_last turns last area).clockwise ≤ n + 1
last_few turns None area n few = omega (arith, few)
last_few turns (Some b) area n few = either (lessens b.area area)
  where
    either : (l : Bool) → (if l then with_one turns b.step else turns).clockwise ≤ n + 1
    either true = omega (arith, few)
    either false = omega (arith, few)

last_same : (turns : SubpathTurns) (last : Option Beginning) (area : Option ℤ) → (with_last turns last area).subpaths ≡ turns.subpaths
last_same turns None area = refl
last_same turns (Some b) area = either (lessens b.area area)
  where
    either : (l : Bool) → (if l then with_one turns b.step else turns).subpaths ≡ turns.subpaths
    either true = refl
    either false = refl

pub turns_begin : (search : TurnSearch) (before : List StepView) (t : StepView) (number : ℕ) (area : Option ℤ) → TurnsSearched search before
    → number ≡ length before + 1 → begins_subpath before t ≡ true → area ≡ drawn_area (segments_of (before ++ t ∷ []))
    → TurnsSearched (begun number area search) (before ++ t ∷ [])
turns_begin search before t number area st at begins is =
    let more : length (before ++ t ∷ []) ≡ length before + 1 = length-append before (t ∷ []) in
    record {
      area = is;
      turns = λ whole.
          rw (st.area, st.turns (drawn_area (segments_of before)), at)
          (turns_on whole (subpaths_of before) (beginning before) ∙ ap (turns_among whole) (sym (subpaths_on before t true (sym begins))));
      few = omega (arith, more, st.few, last_same search.turns search.last search.area);
      fewer = omega (arith, more, last_few search.turns search.last search.area (length before) st.fewer);
    }

-- ---- before the first step

pub no_area : Some (pos 0) ≡ drawn_area (segments_of [])
unfolding line_area cross
no_area = refl
