-- What is known after a further segment, by what was known before it.
use Rattle.std.proofs.Common.{◌≡◌, ◌<◌, ◌+◌, suc, ℕ, ℤ, ◌+ℤ◌, ◌&&◌, ◌||◌, Bool, true, Option, Some, List, [], ◌∷◌, ◌++◌, length, take, get_or, refl, sym, subst, ap, ◌∙◌, append_assoc, arith}
use Rattle.std.proofs.Math.Bool.{and-true, or-false, or_assoc}
use Rattle.std.proofs.lemmas.Int.{ints}
use Rattle.std.proofs.lemmas.List.{append-nil, length-append, length-take-le, reverse-append}
use Rattle.std.proofs.lemmas.Grind.{common_steps}
use Rattle.std.proofs.lemmas.List.Elements.{All-cons}
use Rattle.std.proofs.lemmas.List.Folds.{list_all-append, list_any-append}
use Rattle.std.specs.List.{list_all, list_any}
use Rattle.t1_outline.specs.declared.segment.Segment.{Segment}
use Rattle.t1_outline.specs.declared.segment.Segment.TheVariants.{Move, Line, Curve, Close}
use Rattle.t1_outline.specs.Laws.Points.{end_of}
use Rattle.t1_rules.specs.declared.step_rules.flex.Point.{Point}
use Rattle.t1_rules.specs.Watches.{IsWithin}
use Rattle.t1_drawing.specs.declared.area.Area.{Area}
use Rattle.t1_drawing.specs.declared.font_box.FontBox.{FontBox}
use Rattle.t1_drawing.specs.Areas.{area_from, area_of, curve_area, is_drawn_close, line_area}
use Rattle.t1_drawing.specs.Bounds.{CanBeDrawn, IsDrawnNear}
use Rattle.t1_drawing.specs.Curves.{is_flat, lacks_extreme}
use Rattle.t1_drawing.specs.Drawings.{faults_at, faults_in, traced, traced_at}
use Rattle.t1_drawing.specs.FontBoxes.{is_first_outside}
use Rattle.t1_drawing.specs.Lines.{goes_straight_on, has_no_length, turns_back}
use Rattle.t1_drawing.specs.Private.Areas.{IsClose, IsDrawnClose, area_after, most_area}
use Rattle.t1_drawing.specs.Private.Joined.{joined}
use Rattle.t1_drawing.specs.Private.Standing.{AreaStandsFor, SomeAreaStandsFor}
use Rattle.t1_drawing.specs.Segments.{line_start_before, line_start_in, start_after, Test, one_in}
use Rattle.t1_drawing.proofs.Bounding.{cross_within}

-- One more segment in a step.
pub one_more : (test : Test) (before here : List Segment) (s : Segment)
    → one_in test before (here ++ s ∷ []) ≡ (one_in test before here || test (before ++ here) s)
one_more test before [] s = rw (append-nil before) (or-false (test before s))
one_more test before (t ∷ here) s =
    ap (λ b. test before t || b) (one_more test (before ++ t ∷ []) here s ∙ rw (append_assoc before (t ∷ []) here) refl)
    ∙ sym (or_assoc (test before t) (one_in test (before ++ t ∷ []) here) (test (before ++ t ∷ here) s))

-- Where the next one begins.
pub starts : (before : List Segment) (s : Segment) → start_after (before ++ s ∷ []) ≡ end_of s
starts before s = rw (reverse-append before (s ∷ [])) refl

pub line_starts : (before : List Segment) (s : Segment) → line_start_before (before ++ s ∷ []) ≡ line_start_in (start_after before) s
line_starts before s = rw (reverse-append before (s ∷ [])) refl

pub any_more : {A : Type 0} (test : A → Bool) (before : List A) (s : A) → list_any test (before ++ s ∷ []) ≡ (list_any test before || test s)
any_more test before s = list_any-append test before (s ∷ []) ∙ ap (λ b. list_any test before || b) (or-false (test s))

pub all_more : {A : Type 0} (test : A → Bool) (before : List A) (s : A) → list_all test (before ++ s ∷ []) ≡ (list_all test before && test s)
all_more test before s = list_all-append test before (s ∷ []) ∙ ap (λ b. list_all test before && b) (and-true (test s))

-- ---- areas

line_within : (p q : Point) → IsClose p → IsClose q → IsWithin most_area (line_area p q)
unfolding line_area
line_within p q first second = let few = cross_within p q first second in record {
  low = omega (arith, ints, few.low);
  high = omega (arith, ints, few.high);
}

pub curve_within : (p a b q : Point) → IsClose p → IsClose a → IsClose b → IsClose q → IsWithin most_area (curve_area p a b q)
unfolding curve_area
curve_within p a b q start one two end =
    let c1 = cross_within p a start one in
    let c2 = cross_within b q two end in
    let c3 = cross_within p b start two in
    let c4 = cross_within a b one two in
    let c5 = cross_within a q one end in
    let c6 = cross_within p q start end in
    record {
      low = omega (arith, ints, c1.low, c2.low, c3.low, c4.low, c5.low, c6.low);
      high = omega (arith, ints, c1.high, c2.high, c3.high, c4.high, c5.high, c6.high);
    }

-- What is kept of an area after a segment that changes it by so much.
area_on : (a : Area) (before : List Segment) (s : Segment) (began end : Point) (change : ℤ) → AreaStandsFor a before
    → IsClose began → IsClose end → IsWithin most_area change
    → ((more : List Segment) → area_from a.began a.end (s ∷ more) ≡ change +ℤ area_from began end more)
    → AreaStandsFor (record { began = began; end = end; twentyfold = a.twentyfold +ℤ change }) (before ++ s ∷ [])
area_on a before s began end change st close_began close_end few is =
    let longer : length (before ++ s ∷ []) ≡ length before + 1 = length-append before (s ∷ []) in
    record {
      began = close_began;
      end = close_end;
      within = rw longer (record { low = omega (arith, ints, st.within.low, few.low); high = omega (arith, ints, st.within.high, few.high) });
      sum = λ more.
          ap area_of (append_assoc before (s ∷ []) more) ∙ st.sum (s ∷ more) ∙ ap (λ z. a.twentyfold +ℤ z) (is more)
          ∙ assoc a.twentyfold change (area_from began end more);
    }
  where
    assoc : (x y z : ℤ) → x +ℤ (y +ℤ z) ≡ (x +ℤ y) +ℤ z
    assoc x y z = omega (arith, ints)

area_stands_on : (a : Area) (before : List Segment) (s : Segment) → AreaStandsFor a before → IsDrawnClose s
    → AreaStandsFor (area_after a s) (before ++ s ∷ [])
area_stands_on a before (Move p) st close =
    area_on a before (Move p) p p (line_area a.end a.began) st close close (line_within a.end a.began st.end st.began) (λ more. refl)
area_stands_on a before (Line end) st close =
    area_on a before (Line end) a.began end (line_area a.end end) st st.began close (line_within a.end end st.end close) (λ more. refl)
area_stands_on a before (Curve one two end) st close =
    area_on a before (Curve one two end) a.began end (curve_area a.end one two end) st st.began close.2
    (curve_within a.end one two end st.end close.0 close.1 close.2) (λ more. refl)
area_stands_on a before Close st close =
    area_on a before Close a.began a.began (line_area a.end a.began) st st.began st.began (line_within a.end a.began st.end st.began) (λ more. refl)

pub area_goes_on : (a b : Area) (before : List Segment) (s : Segment) → b ≡ area_after a s → is_drawn_close s ≡ true → IsDrawnClose s
    → SomeAreaStandsFor (Some a) before → SomeAreaStandsFor (Some b) (before ++ s ∷ [])
area_goes_on a b before s is close points st = (
  all_more is_drawn_close before s ∙ rw (st.0, close) refl,
  subst (λ (x : Area). AreaStandsFor x (before ++ s ∷ [])) (sym is) (area_stands_on a before s st.1 points),
)

-- The whole area is what is kept, and the line that closes the last subpath.
pub whole_area : (a : Area) (before : List Segment) → AreaStandsFor a before → a.twentyfold +ℤ line_area a.end a.began ≡ area_of before
whole_area a before st = sym (ap area_of (sym (append-nil before)) ∙ st.sum [])

-- ---- a step's segments, one after another

-- Each segment of a step can be drawn after those before it.
pub drawn_at : (before here : List Segment) (i : ℕ) (d : Segment) → i < length here → CanBeDrawn before here
    → CanBeDrawn (before ++ take i here) (get_or here i d ∷ [])
drawn_at before here i d within can = record {
  few =
      let first : length (take i here) ≡ i = length-take-le i here (omega (arith, within)) in
      omega (arith, can.few, within, first, length-append before (take i here));
  near = All-cons IsDrawnNear (get_or here i d) [] (can.near i d within) (λ k e less. absurd (omega (arith, less)));
}

-- One more of them.
pub taken : (here : List Segment) (i : ℕ) (d : Segment) → i < length here → take (i + 1) here ≡ take i here ++ get_or here i d ∷ []
taken here i d within = grind (arith, common_steps)

pub longer : (before here : List Segment) (i : ℕ) (d : Segment) → i < length here
    → before ++ take (i + 1) here ≡ (before ++ take i here) ++ get_or here i d ∷ []
longer before here i d within =
    ap (λ ss. before ++ ss) (taken here i d within) ∙ sym (append_assoc before (take i here) (get_or here i d ∷ []))

pub faults_more : (box : Option FontBox) (before here : List Segment) (s : Segment)
    → joined (faults_in box before here) (faults_at box (before ++ here) s) ≡ faults_in box before (here ++ s ∷ [])
faults_more box before here s = rw (
  one_more (is_first_outside box) before here s,
  one_more has_no_length before here s,
  one_more turns_back before here s,
  one_more goes_straight_on before here s,
  one_more is_flat before here s,
  one_more lacks_extreme before here s,
) refl

-- What one segment breaks alone.
pub faults_of_one : (box : Option FontBox) (before : List Segment) (s : Segment) → faults_in box before (s ∷ []) ≡ faults_at box before s
faults_of_one box before s = rw (
  or-false (is_first_outside box before s),
  or-false (has_no_length before s),
  or-false (turns_back before s),
  or-false (goes_straight_on before s),
  or-false (is_flat before s),
  or-false (lacks_extreme before s),
) refl

-- Each of them with what is before it.
pub traced_more : (box : Option FontBox) (before here : List Segment) (s : Segment)
    → traced box before (here ++ s ∷ []) ≡ traced box before here ++ traced_at box (before ++ here) s ∷ []
traced_more box before [] s = ap (λ ss. traced_at box ss s ∷ []) (sym (append-nil before))
traced_more box before (t ∷ here) s =
    ap (λ more. traced_at box before t ∷ more)
    (traced_more box (before ++ t ∷ []) here s
    ∙ ap (λ ss. traced box (before ++ t ∷ []) here ++ traced_at box ss s ∷ []) (append_assoc before (t ∷ []) here))

pub traced_length : (box : Option FontBox) (before here : List Segment) → length (traced box before here) ≡ length here
traced_length box before [] = refl
traced_length box before (s ∷ here) = ap suc (traced_length box (before ++ s ∷ []) here)
